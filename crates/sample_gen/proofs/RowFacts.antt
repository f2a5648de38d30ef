-- The lines of rows, one after the other.
use Rattle.std.proofs.Common.{◌≡◌, ◌∙◌, ap, sym, arith, ℕ, ◌+◌, ◌≤◌, List, [], ◌∷◌, ◌++◌}
use Rattle.std.specs.List.{flat_map, range_with_len}
use Rattle.std.proofs.lemmas.List.{append-nil, flat_map_more}
use Rattle.rpt_base.proofs.RangeFacts.{range-more}
use Rattle.sample_gen.specs.Tables.{rows_text}

module _ (row : ℕ → List ℕ) (front : List ℕ) where
  -- no row
  pub rows_text-none : front ≡ front ++ rows_text row 0
  unfolding rows_text
  rows_text-none = sym (append-nil front)

  module _ (n : ℕ) (now : List ℕ) where
    -- one row more
    pub rows_text-more : (next : List ℕ) → now ≡ front ++ rows_text row n → next ≡ now ++ row n → next ≡ front ++ rows_text row (n + 1)
    unfolding rows_text
    rows_text-more next so_far put =
        put
        ∙ ap (λ t. t ++ row n) so_far
        ∙ flat_map_more row front (range_with_len 0 n) n
        ∙ ap (λ ids. front ++ flat_map row ids) (sym (range-more n))

    -- all rows
    pub rows_text-all : (count : ℕ) → count ≤ n → n ≤ count → now ≡ front ++ rows_text row n → now ≡ front ++ rows_text row count
    rows_text-all count past within so_far =
        let all : n ≡ count = omega arith in
        so_far ∙ ap (λ k. front ++ rows_text row k) all
