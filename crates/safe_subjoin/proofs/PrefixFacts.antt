-- The prefixes of a join list are safe sets.
use Rattle.std.proofs.Common.{◌≡◌, ℕ, zero, suc, ◌≤◌, Bool, true, false, ◌||◌, List, [], ◌∷◌, take, drop, refl, sym, ap, ◌∙◌, eqb, arith}
use Rattle.std.specs.List.{list_any}
use Rattle.std.proofs.lemmas.List.{take-append-drop, take-map}
use Rattle.join_graph.specs.declared.tree.Link.{Link}
use Rattle.join_graph.specs.JoinList.{listed_by, IsJoinList}
use Rattle.rpt_base.specs.Lists.{has}
use Rattle.join_graph.specs.SafeSet.{IsSafe}
use Rattle.join_graph.proofs.ListFacts.{has-children}
use Rattle.largest_root.proofs.ListedFacts.{has-listed_by}
use Rattle.safe_subjoin.specs.SafeOrder.{first_of, sequence}

has-front : (r root : ℕ) (links : List Link) (k : ℕ)
    → has r (listed_by (root ∷ []) (take k links)) ≡ first_of (sequence root links) (suc k) r
has-front r root links k =
    has-listed_by r (root ∷ []) (take k links)
    ∙ flat (eqb r root) (list_any (λ l. eqb r l.child) (take k links))
    ∙ ap (λ b. eqb r root || b) (has-children r (take k links) ∙ ap (has r) (sym (take-map (λ (l : Link). l.child) k links)))
  where
    flat : (a b : Bool) → ((a || false) || b) ≡ (a || b)
    flat true b = refl
    flat false b = refl

-- each prefix of a join list's own sequence is a safe set
pub prefix-safe : (vs : List (List ℕ)) (root : ℕ) (links : List Link) → IsJoinList vs root links → (k : ℕ) → 1 ≤ k
    → IsSafe vs (first_of (sequence root links) k)
prefix-safe vs root links joins zero some = absurd (omega arith)
prefix-safe vs root links joins (suc k) some =
    (root, links, joins, record { front = take k links; back = drop k links; joined = sym (take-append-drop k links); same = λ r. has-front r root links k })
