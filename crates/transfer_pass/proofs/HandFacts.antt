-- Lists of hands, and their parts.
use Rattle.std.proofs.Common.{◌≡◌, ℕ, zero, suc, ◌+◌, ◌<◌, List, [], ◌∷◌, ◌++◌, length, get_or, take, All, Bool, true, ◌||◌, arith, ap, refl, subst, sym, ◌∙◌}
use Rattle.std.proofs.lemmas.Bool.{or_left}
use Rattle.filter_board.specs.Views.{HandView, with_actor}
use Rattle.transfer_core.proofs.Sums.{total-append}
use Rattle.transfer_core.specs.Actors.{is_marked, with_seen}
use Rattle.filter_board.specs.Shares.{either}
use Rattle.transfer_pass.specs.Rounds.{all_parts, with_marks}

pub parts_last : (all front : List HandView) (last : HandView) → all ≡ front ++ last ∷ [] → all_parts front + last.parts ≡ all_parts all
parts_last all front last e = omega (arith, ap all_parts e, total-append (λ (h : HandView). h.parts) front (last ∷ []))

module _ {A : Type 0} (P : A → Type 0) where
  front_of : (front : List A) (last : A) → ((k : ℕ) (d : A) → k < length (front ++ last ∷ []) → P (get_or (front ++ last ∷ []) k d)) → (k : ℕ) (d : A) → k < length front → P (get_or front k d)
  front_of [] last each k d l = absurd (omega arith)
  front_of (x ∷ xs) last each zero d l = each 0 d (omega arith)
  front_of (x ∷ xs) last each (suc k) d l = front_of xs last (λ n e less. each (suc n) e (omega arith)) k d (omega arith)

  last_of : (front : List A) (last : A) → ((k : ℕ) (d : A) → k < length (front ++ last ∷ []) → P (get_or (front ++ last ∷ []) k d)) → P last
  last_of [] last each = each 0 last (omega arith)
  last_of (x ∷ xs) last each = last_of xs last (λ n e less. each (suc n) e (omega arith))

  pub all_front : (all front : List A) (last : A) → all ≡ front ++ last ∷ [] → All P all → All P front
  all_front all front last e each = front_of front last (subst (All P) e each)

  pub all_last : (all front : List A) (last : A) → all ≡ front ++ last ∷ [] → All P all → P last
  all_last all front last e each = last_of front last (subst (All P) e each)

pub parts_same : (old new : List HandView) → length new ≡ length old → ((k : ℕ) (d : HandView) → k < length old → (get_or new k d).parts ≡ (get_or old k d).parts) → all_parts new ≡ all_parts old
parts_same [] [] long each = refl
parts_same [] (y ∷ ys) long each = absurd (omega arith)
parts_same (x ∷ xs) [] long each = absurd (omega arith)
parts_same (x ∷ xs) (y ∷ ys) long each = omega (arith, each 0 x (omega arith), parts_same xs ys (omega arith) (λ k d l. each (suc k) d (omega arith)))

pub taken : {A : Type 0} (n : ℕ) (new rest : List A) → length new ≡ n → take n (new ++ rest) ≡ new
taken zero [] rest long = refl
taken zero (x ∷ xs) rest long = absurd (omega arith)
taken (suc n) [] rest long = absurd (omega arith)
taken (suc n) (x ∷ xs) rest long = ap (λ l. x ∷ l) (taken n xs rest (omega arith))

-- ---- marks of either list

pub marked_left : (a b : List Bool) (p : ℕ) → is_marked a p ≡ true → is_marked (either a b) p ≡ true
marked_left [] b p e = cc e
marked_left (x ∷ xs) [] p e = e
marked_left (x ∷ xs) (y ∷ ys) zero e = or_left x y e
marked_left (x ∷ xs) (y ∷ ys) (suc p) e = marked_left xs ys p e

-- ---- calls that change the marks alone
pub same_but_marks : (a b c : HandView) (p : ℕ) → a ≡ with_actor (with_seen p) b → b ≡ with_marks b.actor.seen c → a ≡ with_marks a.actor.seen c
same_but_marks a b c p e f =
    e ∙ ap (with_actor (with_seen p)) f ∙ ap (λ (l : List Bool). with_marks l c) (sym (ap (λ (h : HandView). h.actor.seen) e))
