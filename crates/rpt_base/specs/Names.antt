-- What a name is.
use Rattle.std.specs.Prelude.{ℕ, List, length, Bool, ◌&&◌, ◌==◌, not, nat_le}
use Rattle.std.specs.List.{list_all}
use Rattle.std.specs.Str.{is_utf8}
use Rattle.rpt_base.specs.declared.limits.TheConstants.{MAX_NAME_BYTES}

-- not a control byte, and no double quote
abbrev pub is_name_byte : ℕ → Bool
is_name_byte b = nat_le 32 b && (not (b == 34) && not (b == 127))

-- 1 to 63 bytes of UTF-8, each of which may stand in a name
abbrev pub is_name : List ℕ → Bool
is_name bytes = nat_le 1 (length bytes) && (nat_le (length bytes) MAX_NAME_BYTES && (list_all is_name_byte bytes && is_utf8 bytes))
