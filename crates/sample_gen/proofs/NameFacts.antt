-- Names of ASCII alone.
use Rattle.std.proofs.Common.{◌≡◌, true, ℕ, List}
use Rattle.std.specs.Prelude.{nat_lt}
use Rattle.std.specs.List.{list_all}
use Rattle.std.specs.Str.{is_utf8}
use Rattle.std.proofs.lemmas.List.Sums.{AllPass-from_list_all}
use Rattle.std.proofs.lemmas.Str.{IsUtf8-from_ascii, is_utf8-from_IsUtf8}
use Rattle.std.proofs.lemmas.Str.Ascii.{IsAscii-from_all}
use borrow.Author.Tests.{ltb-true}

pub ascii-is_utf8 : (bytes : List ℕ) → list_all (λ b. nat_lt b 128) bytes ≡ true → is_utf8 bytes ≡ true
ascii-is_utf8 bytes small =
    let all = AllPass-from_list_all (λ b. nat_lt b 128) bytes small in
    is_utf8-from_IsUtf8 bytes (IsUtf8-from_ascii bytes (IsAscii-from_all bytes (λ i d lt. ltb-true _ _ (all i d lt))))
