-- The tables that sources use, source by source, and the numbers of tables.
use Rattle.std.proofs.Common.{◌≡◌, ◌∙◌, ◌<◌, ◌≤◌, ◌+◌, ℕ, Bool, true, false, cond, nat_lt, not, List, [], ◌∷◌, length, drop, get_or, refl, ap, sym, arith, add-one, drop-cons}
use Rattle.std.specs.Prelude.{None, Some, position}
use Rattle.std.specs.List.{position_or_len}
use Rattle.std.proofs.lemmas.Bool.{ltb-false}
use Rattle.std.proofs.lemmas.List.Sums.{prefix_len-le-length}
use Rattle.std.proofs.Math.ListN.{drop_of_length-le}
use Rattle.sql_grammar.specs.declared.tree.CreateTable.{CreateTable}
use Rattle.sql_grammar.specs.declared.tree.Source.{Source}
use Rattle.column_table.specs.declared.declared.Decl.{Decl}
use Rattle.binder.specs.Binding.{tables_behind, with_table}

module _ (created : List CreateTable) (sources : List Source) where
  -- the tables of the sources before this one have been taken
  pub record IsUsedTo (used : List Decl) (n : ℕ) : Type 0 where
    pub all : tables_behind created used (drop n sources) ≡ tables_behind created [] sources

  pub used-start : IsUsedTo [] 0
  used-start = record { all = refl }

  pub used-more : (used : List Decl) (n : ℕ) (d : Source) → n < length sources → IsUsedTo used n → IsUsedTo (with_table created used (get_or sources n d)) (n + 1)
  unfolding tables_behind
  used-more used n d h is =
      let e : drop n sources ≡ get_or sources n d ∷ drop (n + 1) sources = rw (add-one, drop-cons sources n d h) refl in
      record { all = sym (ap (tables_behind created used) e) ∙ is.all }

  pub used-end : (used : List Decl) (n : ℕ) → length sources ≤ n → IsUsedTo used n → used ≡ tables_behind created [] sources
  unfolding tables_behind
  used-end used n h is = sym (ap (tables_behind created used) (drop_of_length-le sources h)) ∙ is.all

no_place-then : (b : Bool) (i : ℕ) → cond b (Some i) None ≡ None → b ≡ false
no_place-then true i e = cc
no_place-then false i e = refl

-- where none is found, the place is that behind the last
pub position-none : {X : Type 0} (p : X → Bool) (xs : List X) → position p xs ≡ None → length xs ≡ position_or_len p xs
position-none p xs e =
    let no : nat_lt (position_or_len p xs) (length xs) ≡ false = no_place-then (nat_lt (position_or_len p xs) (length xs)) (position_or_len p xs) e in
    omega (arith, ltb-false (position_or_len p xs) (length xs) no, prefix_len-le-length (λ x. not (p x)) xs)
