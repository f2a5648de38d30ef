-- What is listed, as a test over the links.
use Rattle.std.proofs.Common.{◌≡◌, ℕ, ◌<◌, ◌≤◌, Bool, true, false, ◌||◌, ◌⊎◌, List, [], ◌∷◌, refl, sym, ap, ◌∙◌, inl, inr, eqb, arith}
use Rattle.std.specs.List.{list_any}
use Rattle.std.proofs.lemmas.Bool.{or_left, eq-eqb, ne_eqb}
use Rattle.join_graph.specs.declared.tree.Link.{Link}
use Rattle.join_graph.specs.JoinList.{listed_by}
use Rattle.rpt_base.specs.Lists.{has}
use Rattle.largest_root.specs.Greedy.{NotBefore}

swap-or : (a b c : Bool) → ((a || b) || c) ≡ (b || (a || c))
swap-or true true c = refl
swap-or true false c = refl
swap-or false true c = refl
swap-or false false c = refl

pub has-listed_by : (r : ℕ) (listed : List ℕ) (ls : List Link)
    → has r (listed_by listed ls) ≡ (has r listed || list_any (λ l. eqb r l.child) ls)
has-listed_by r listed [] = go (has r listed)
  where
    go : (b : Bool) → b ≡ (b || false)
    go true = refl
    go false = refl
has-listed_by r listed (l ∷ ls) = has-listed_by r (l.child ∷ listed) ls ∙ swap-or (eqb r l.child) (has r listed) (list_any (λ z. eqb r z.child) ls)

pub listed-root : (r root : ℕ) (ls : List Link) → r ≡ root → has r (listed_by (root ∷ []) ls) ≡ true
listed-root r root ls h = has-listed_by r (root ∷ []) ls ∙ or_left (eqb r root || false) _ (or_left (eqb r root) false (eq-eqb r root h))

pub listed-other : (r root : ℕ) (ls : List Link) → (r ≡ root → ⊥) → list_any (λ l. eqb r l.child) ls ≡ has r (listed_by (root ∷ []) ls)
listed-other r root ls h = sym (has-listed_by r (root ∷ []) ls ∙ ap (λ b. (b || false) || list_any (λ l. eqb r l.child) ls) (ne_eqb r root h))

module _ (w : ℕ → ℕ → ℕ) (size : ℕ → ℕ) where
  pub NotBefore-trans : (i j a b c d : ℕ) → NotBefore w size i j a b → NotBefore w size a b c d → NotBefore w size i j c d
  NotBefore-trans i j a b c d (inl x) (inl y) = inl (omega arith)
  NotBefore-trans i j a b c d (inl x) (inr (e, h)) = inl (omega arith)
  NotBefore-trans i j a b c d (inr (e, h)) (inl y) = inl (omega arith)
  NotBefore-trans i j a b c d (inr (e, inl x)) (inr (f, inl y)) = inr (omega arith, inl (omega arith))
  NotBefore-trans i j a b c d (inr (e, inl x)) (inr (f, inr (g, h))) = inr (omega arith, inl (omega arith))
  NotBefore-trans i j a b c d (inr (e, inr (g, h))) (inr (f, inl y)) = inr (omega arith, inl (omega arith))
  NotBefore-trans i j a b c d (inr (e, inr (g, inl x))) (inr (f, inr (k, inl y))) = inr (omega arith, inr (omega arith, inl (omega arith)))
  NotBefore-trans i j a b c d (inr (e, inr (g, inl x))) (inr (f, inr (k, inr (m, n)))) = inr (omega arith, inr (omega arith, inl (omega arith)))
  NotBefore-trans i j a b c d (inr (e, inr (g, inr (x, y)))) (inr (f, inr (k, inl z))) = inr (omega arith, inr (omega arith, inl (omega arith)))
  NotBefore-trans i j a b c d (inr (e, inr (g, inr (x, y)))) (inr (f, inr (k, inr (m, n)))) = inr (omega arith, inr (omega arith, inr (omega arith, omega arith)))

module _ (w : ℕ → ℕ → ℕ) (size : ℕ → ℕ) where
  -- a link with the best of its child's parents is best for its child
  pub from_parent : (i j p : ℕ) → (w i j < w i p) ⊎ ((w i j ≡ w i p) × (p ≤ j)) → NotBefore w size i j i p
  from_parent i j p (inl less) = inl less
  from_parent i j p (inr (e, h)) = inr (e, inr (refl, inr (refl, h)))
