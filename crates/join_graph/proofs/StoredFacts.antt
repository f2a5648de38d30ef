-- From the sets that a graph keeps to the variables of its relations.
use Rattle.std.proofs.Common.{◌≡◌, ℕ, ◌<◌, ◌≤◌, List, [], map, length, get_or, sym, ap, ◌∙◌, subst}
use Rattle.std.proofs.lemmas.List.{get_or-map, length-map}
use Rattle.join_graph.specs.JoinList.{vars_of, IsGraph}

pub stored : {V : Type 0} (items : V → List ℕ) (sets : List V) (vs : List (List ℕ)) (i : ℕ) (x : V) (xs : List ℕ) → map items sets ≡ vs
    → i < length vs → x ≡ get_or sets i x → xs ≡ items x → xs ≡ vars_of vs i
stored items sets vs i x xs e l h k =
    let inside : i < length sets = subst (λ n. i < n) (ap length (sym e) ∙ length-map sets items) l in
    k ∙ ap items h ∙ sym (get_or-map items sets i x [] inside) ∙ ap (λ g. vars_of g i) e

pub stored-short : (vs : List (List ℕ)) (i : ℕ) (xs : List ℕ) → IsGraph vs → i < length vs → xs ≡ vars_of vs i → length xs ≤ 64
stored-short vs i xs g l e = subst (λ z. length z ≤ 64) (sym e) (g.short i [] l)
