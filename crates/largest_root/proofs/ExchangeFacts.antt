-- No list with parents weighs more than the greedy one.
--
-- Another list is gone through link by link, with the set s of its relations so far. For each relation of s but the first in
-- the greedy order, take the least weight of a greedy link since the relation of s before it: their sum is `rooted`. It is 0
-- where s has one relation, it never passes the weight of the greedy list, and with a link of the other list it grows by that
-- link's weight at least, since each greedy link is the heaviest of the pairs that were open when it was taken. Ties between
-- pairs play no part. Where a set comes first, the same holds for the links behind it, from the listed set on.
use Rattle.std.proofs.Common.{◌≡◌, ℕ, ◌+◌, ◌≤◌, min, Bool, true, false, cond, ◌||◌, List, [], ◌∷◌, refl, sym, ap, ◌∙◌, subst, inl, inr, eqb, arith}
use Rattle.std.proofs.lemmas.Bool.{eqb-true, ne_eqb, both_ways, cases_Bool, or_cases, false_from_ne_true}
use Rattle.join_graph.specs.declared.tree.Link.{Link}
use Rattle.join_graph.specs.JoinList.{listed_by}
use Rattle.rpt_base.specs.Lists.{has}
use Rattle.join_graph.specs.Weights.{total}
use Rattle.rpt_base.proofs.MemberFacts.{has-kept, has-head, has-other, has-still, has-apart, eqb-flip}

module _ (w : ℕ → ℕ → ℕ) (set : ℕ → Bool) where
  -- what the exchange uses of the greedy links: each one's weight is greatest among the open pairs
  abbrev pub Steep : List ℕ → List Link → Type 0
  Steep listed [] = (r : ℕ) → set r ≡ true → has r listed ≡ true
  Steep listed (l ∷ ls) = (has l.child listed ≡ false) × ((i j : ℕ) → set i ≡ true → has i listed ≡ false → has j listed ≡ true → w i j ≤ w l.child l.parent) × Steep (l.child ∷ listed) ls

module _ (set : ℕ → Bool) where
  -- each child is in the set and new, and its parent is listed
  abbrev pub Grows : List ℕ → List Link → Type 0
  Grows s [] = Unit {0}
  Grows s (l ∷ ls) = (set l.child ≡ true) × (has l.child s ≡ false) × (has l.parent s ≡ true) × Grows (l.child ∷ s) ls

module _ (w : ℕ → ℕ → ℕ) (W : ℕ) where
  -- for the relations of s, in the greedy order: the sum of the least weight since the last of them; m is the least so far
  abbrev pub span : List ℕ → ℕ → List Link → ℕ
  span s m [] = 0
  span s m (l ∷ ls) = cond (has l.child s) (min m (w l.child l.parent) + span s W ls) (span s (min m (w l.child l.parent)) ls)

  span-rises : (s : List ℕ) (m k : ℕ) (ls : List Link) → m ≤ k → span s m ls ≤ span s k ls
  span-rises s m k [] h = omega arith
  span-rises s m k (l ∷ ls) h =
      let v : ℕ = w l.child l.parent in
      elim (has l.child s) as (λ b. cond b (min m v + span s W ls) (span s (min m v) ls) ≤ cond b (min k v + span s W ls) (span s (min k v) ls))
      [ true ↦ omega arith | false ↦ span-rises s (min m v) (min k v) ls (omega arith) ]

  span-le-total : (s : List ℕ) (m : ℕ) (ls : List Link) → span s m ls ≤ total w ls
  span-le-total s m [] = omega arith
  span-le-total s m (l ∷ ls) =
      let v : ℕ = w l.child l.parent in
      elim (has l.child s) as (λ b. cond b (min m v + span s W ls) (span s (min m v) ls) ≤ v + total w ls)
      [ true ↦ omega (arith, span-le-total s W ls) | false ↦ omega (arith, span-le-total s (min m v) ls) ]

module _ (w : ℕ → ℕ → ℕ) (W : ℕ) (set : ℕ → Bool) where
  -- a relation that is listed already changes nothing
  span-skip : (c : ℕ) (s : List ℕ) (m : ℕ) (listed : List ℕ) (ls : List Link) → Steep w set listed ls → has c listed ≡ true
      → span w W (c ∷ s) m ls ≡ span w W s m ls
  span-skip c s m listed [] g h = refl
  span-skip c s m listed (l ∷ ls) g h =
      let v : ℕ = w l.child l.parent in
      let differ : eqb l.child c ≡ false = ne_eqb l.child c (λ e. has-apart c l.child listed h g.0 (sym e)) in
      let same : has l.child (c ∷ s) ≡ has l.child s = has-other l.child c s differ in
      let one : span w W (c ∷ s) W ls ≡ span w W s W ls = span-skip c s W (l.child ∷ listed) ls g.2 (has-kept c l.child listed h) in
      let two : span w W (c ∷ s) (min m v) ls ≡ span w W s (min m v) ls = span-skip c s (min m v) (l.child ∷ listed) ls g.2 (has-kept c l.child listed h) in
      ap (λ b. cond b (min m v + span w W (c ∷ s) W ls) (span w W (c ∷ s) (min m v) ls)) same
      ∙ ap (λ x. cond (has l.child s) (min m v + x) (span w W (c ∷ s) (min m v) ls)) one
      ∙ ap (λ x. cond (has l.child s) (min m v + span w W s W ls) x) two

  -- a is listed, b is ahead and in s
  span-gap : (a b x : ℕ) (s : List ℕ) (m k : ℕ) (listed : List ℕ) (ls : List Link) → Steep w set listed ls → has a listed ≡ true
      → has b listed ≡ false → set b ≡ true → has b s ≡ true → x ≤ w b a → x ≤ k → x + span w W s m ls ≤ m + span w W s k ls
  span-gap a b x s m k listed [] g ha hb inside in_s low h = absurd (both_ways (has b listed) hb (g b inside))
  span-gap a b x s m k listed (l ∷ ls) g ha hb inside in_s low h =
      let v : ℕ = w l.child l.parent in
      let most : w b a ≤ v = g.1 b a inside hb ha in
      elim (cases_Bool (has l.child s)) [
        | inl on ↦ rw on (omega arith)
        | inr off ↦
            let differ : eqb b l.child ≡ false = ne_eqb b l.child (λ e. has-apart b l.child s in_s off e) in
            let rest : x + span w W s (min m v) ls ≤ min m v + span w W s (min k v) ls =
            span-gap a b x s (min m v) (min k v) (l.child ∷ listed) ls g.2 (has-kept a l.child listed ha) (has-still b l.child listed differ hb) inside in_s low (omega arith) in
            rw off (omega arith)
      ]

  -- a is listed, c is ahead and comes into s
  span-ahead : (a c x : ℕ) (s : List ℕ) (m : ℕ) (listed : List ℕ) (ls : List Link) → Steep w set listed ls → has a listed ≡ true
      → has c listed ≡ false → set c ≡ true → has c s ≡ false → x ≤ w c a → x ≤ m → m ≤ W → x + span w W s m ls ≤ span w W (c ∷ s) m ls
  span-ahead a c x s m listed [] g ha hc inside out low h big = absurd (both_ways (has c listed) hc (g c inside))
  span-ahead a c x s m listed (l ∷ ls) g ha hc inside out low h big =
      let v : ℕ = w l.child l.parent in
      let most : w c a ≤ v = g.1 c a inside hc ha in
      elim (cases_Bool (eqb l.child c)) [
        | inl here ↦
            let e : l.child ≡ c = eqb-true l.child c here in
            let now : has l.child (c ∷ s) ≡ true = ap (λ b. b || has l.child s) here in
            let before : has l.child s ≡ false = ap (λ z. has z s) e ∙ out in
            let skip : span w W (c ∷ s) W ls ≡ span w W s W ls =
            span-skip c s W (l.child ∷ listed) ls g.2 (subst (λ z. has c (z ∷ listed) ≡ true) (sym e) (has-head c listed)) in
            let rise : span w W s (min m v) ls ≤ span w W s W ls = span-rises w W s (min m v) W ls (omega arith) in
            rw (now, before) (omega arith)
        | inr there ↦
            let same : has l.child (c ∷ s) ≡ has l.child s = has-other l.child c s there in
            let still : has c (l.child ∷ listed) ≡ false = has-still c l.child listed (eqb-flip l.child c there) hc in
            let kept : has a (l.child ∷ listed) ≡ true = has-kept a l.child listed ha in
            let one : x + span w W s W ls ≤ span w W (c ∷ s) W ls = span-ahead a c x s W (l.child ∷ listed) ls g.2 kept still inside out low (omega arith) (omega arith) in
            let two : x + span w W s (min m v) ls ≤ span w W (c ∷ s) (min m v) ls = span-ahead a c x s (min m v) (l.child ∷ listed) ls g.2 kept still inside out low (omega arith) (omega arith) in
            rw same (elim (has l.child s) as (λ b. x + cond b (min m v + span w W s W ls) (span w W s (min m v) ls) ≤ cond b (min m v + span w W (c ∷ s) W ls) (span w W (c ∷ s) (min m v) ls))
            [ true ↦ omega arith | false ↦ two ])
      ]

  -- c and a are both ahead, a is in s and c comes into it
  span-apart : (same_ways : (i j : ℕ) → w i j ≡ w j i) (a c x : ℕ) (s : List ℕ) (m : ℕ) (listed : List ℕ) (ls : List Link)
      → Steep w set listed ls → has a listed ≡ false → has c listed ≡ false → set a ≡ true → set c ≡ true → has a s ≡ true → has c s ≡ false
      → x ≤ w c a → x ≤ W → m ≤ W → x + span w W s m ls ≤ span w W (c ∷ s) m ls
  span-apart same_ways a c x s m listed [] g ha hc inside_a inside out_a out low top big = absurd (both_ways (has c listed) hc (g c inside))
  span-apart same_ways a c x s m listed (l ∷ ls) g ha hc inside_a inside in_s out low top big =
      let v : ℕ = w l.child l.parent in
      elim (cases_Bool (eqb l.child c)) [
        | inl here ↦
            let e : l.child ≡ c = eqb-true l.child c here in
            let now : has l.child (c ∷ s) ≡ true = ap (λ b. b || has l.child s) here in
            let before : has l.child s ≡ false = ap (λ z. has z s) e ∙ out in
            let listed_now : has c (l.child ∷ listed) ≡ true = subst (λ z. has c (z ∷ listed) ≡ true) (sym e) (has-head c listed) in
            let skip : span w W (c ∷ s) W ls ≡ span w W s W ls = span-skip c s W (l.child ∷ listed) ls g.2 listed_now in
            let differ : eqb a l.child ≡ false = ne_eqb a l.child (λ d. has-apart a l.child s in_s before d) in
            let gap : x + span w W s (min m v) ls ≤ min m v + span w W s W ls =
            span-gap c a x s (min m v) W (l.child ∷ listed) ls g.2 listed_now (has-still a l.child listed differ ha) inside_a in_s (subst (λ z. x ≤ z) (same_ways c a) low) top in
            rw (now, before) (omega arith)
        | inr there ↦
            let same : has l.child (c ∷ s) ≡ has l.child s = has-other l.child c s there in
            let still : has c (l.child ∷ listed) ≡ false = has-still c l.child listed (eqb-flip l.child c there) hc in
            elim (cases_Bool (eqb l.child a)) [
              | inl is_a ↦
                  let e : l.child ≡ a = eqb-true l.child a is_a in
                  let member : has l.child s ≡ true = ap (λ z. has z s) e ∙ in_s in
                  let listed_now : has a (l.child ∷ listed) ≡ true = subst (λ z. has a (z ∷ listed) ≡ true) (sym e) (has-head a listed) in
                  let rest : x + span w W s W ls ≤ span w W (c ∷ s) W ls = span-ahead a c x s W (l.child ∷ listed) ls g.2 listed_now still inside out low top (omega arith) in
                  rw (same, member) (omega arith)
              | inr not_a ↦
                  let still_a : has a (l.child ∷ listed) ≡ false = has-still a l.child listed (eqb-flip l.child a not_a) ha in
                  let one : x + span w W s W ls ≤ span w W (c ∷ s) W ls = span-apart same_ways a c x s W (l.child ∷ listed) ls g.2 still_a still inside_a inside in_s out low top (omega arith) in
                  let two : x + span w W s (min m v) ls ≤ span w W (c ∷ s) (min m v) ls = span-apart same_ways a c x s (min m v) (l.child ∷ listed) ls g.2 still_a still inside_a inside in_s out low top (omega arith) in
                  rw same (elim (has l.child s) as (λ b. x + cond b (min m v + span w W s W ls) (span w W s (min m v) ls) ≤ cond b (min m v + span w W (c ∷ s) W ls) (span w W (c ∷ s) (min m v) ls))
                  [ true ↦ omega arith | false ↦ two ])
            ]
      ]

module _ (w : ℕ → ℕ → ℕ) (same_ways : (i j : ℕ) → w i j ≡ w j i) (W : ℕ) (top : (i j : ℕ) → w i j ≤ W) (set : ℕ → Bool) where
  -- a new child in s, in a greedy continuation of the listed ones
  span-more : (p c : ℕ) (s : List ℕ) (m : ℕ) (listed : List ℕ) (ls : List Link) → Steep w set listed ls → has p s ≡ true
      → (has p listed ≡ true → m ≡ W) → has c listed ≡ false → (has p listed ≡ false → set p ≡ true) → set c ≡ true → has c s ≡ false
      → m ≤ W → w c p + span w W s m ls ≤ span w W (c ∷ s) m ls
  span-more p c s m listed ls g in_s start fresh inside_p inside out big =
      elim (cases_Bool (has p listed)) [
        | inl on ↦ let e : m ≡ W = start on in span-ahead w W set p c (w c p) s m listed ls g on fresh inside out (omega arith) (omega (arith, top c p)) big
        | inr off ↦ span-apart w W set same_ways p c (w c p) s m listed ls g off fresh (inside_p off) inside in_s out (omega arith) (top c p) big
      ]

  -- the same with the greedy list's own root at its head
  abbrev rooted : ℕ → List ℕ → List Link → ℕ
  rooted root s ls = cond (has root s) (span w W s W ls) (span w W s 0 ls)

  rooted-more : (root p c : ℕ) (s : List ℕ) (ls : List Link) → Steep w set (root ∷ []) ls → has p s ≡ true → has c s ≡ false → set p ≡ true
      → set c ≡ true → w c p + rooted root s ls ≤ rooted root (c ∷ s) ls
  rooted-more root p c s ls g in_s out inside_p inside =
      elim (cases_Bool (eqb root c)) [
        | inl here ↦
            let e : root ≡ c = eqb-true root c here in
            let now : has root (c ∷ s) ≡ true = ap (λ b. b || has root s) here in
            let before : has root s ≡ false = ap (λ z. has z s) e ∙ out in
            let listed_now : has c (root ∷ []) ≡ true = subst (λ z. has c (z ∷ []) ≡ true) (sym e) (has-head c []) in
            let skip : span w W (c ∷ s) W ls ≡ span w W s W ls = span-skip w W set c s W (root ∷ []) ls g listed_now in
            let differ : eqb p root ≡ false = ne_eqb p root (λ d. has-apart p root s in_s before d) in
            let gap : w c p + span w W s 0 ls ≤ 0 + span w W s W ls =
            span-gap w W set c p (w c p) s 0 W (root ∷ []) ls g listed_now (has-still p root [] differ refl) inside_p in_s (omega (arith, same_ways c p)) (top c p) in
            rw (now, before) (omega arith)
        | inr there ↦
            let same : has root (c ∷ s) ≡ has root s = has-other root c s there in
            let fresh : has c (root ∷ []) ≡ false = has-still c root [] (eqb-flip root c there) refl in
            elim (cases_Bool (has root s)) [
              | inl on ↦
                  let rest : w c p + span w W s W ls ≤ span w W (c ∷ s) W ls = span-more p c s W (root ∷ []) ls g in_s (λ h. refl) fresh (λ h. inside_p) inside out (omega arith) in
                  rw (same, on) rest
              | inr off ↦
                  let differ : eqb p root ≡ false = ne_eqb p root (λ d. has-apart p root s in_s off d) in
                  let gone : has p (root ∷ []) ≡ false = has-still p root [] differ refl in
                  let rest : w c p + span w W s 0 ls ≤ span w W (c ∷ s) 0 ls = span-more p c s 0 (root ∷ []) ls g in_s (λ h. absurd (both_ways (has p (root ∷ [])) gone h)) fresh (λ h. inside_p) inside out (omega arith) in
                  rw (same, off) rest
            ]
      ]

  rooted-grows : (root : ℕ) (s : List ℕ) (links ls : List Link) → Steep w set (root ∷ []) ls → Grows set s links
      → ((r : ℕ) → has r s ≡ true → set r ≡ true) → total w links + rooted root s ls ≤ rooted root (listed_by s links) ls
  rooted-grows root s [] ls g h members = omega arith
  rooted-grows root s (l ∷ links) ls g h members =
      let one : w l.child l.parent + rooted root s ls ≤ rooted root (l.child ∷ s) ls = rooted-more root l.parent l.child s ls g h.2 h.1 (members l.parent h.2) h.0 in
      let more : (r : ℕ) → has r (l.child ∷ s) ≡ true → set r ≡ true =
      λ r k. elim (or_cases (eqb r l.child) (has r s) k) [ inl e ↦ ap set (eqb-true r l.child e) ∙ h.0 | inr i ↦ members r i ] in
      let rest : total w links + rooted root (l.child ∷ s) ls ≤ rooted root (listed_by (l.child ∷ s) links) ls = rooted-grows root (l.child ∷ s) links ls g h.3 more in
      omega arith

  rooted-le-total : (root : ℕ) (s : List ℕ) (ls : List Link) → rooted root s ls ≤ total w ls
  rooted-le-total root s ls =
      elim (has root s) as (λ b. cond b (span w W s W ls) (span w W s 0 ls) ≤ total w ls)
      [ true ↦ span-le-total w W s W ls | false ↦ span-le-total w W s 0 ls ]

  -- no list of the set weighs more than the greedy one, whatever its first relation
  pub steepest : (root : ℕ) (ls : List Link) (r : ℕ) (links : List Link) → Steep w set (root ∷ []) ls → set r ≡ true
      → Grows set (r ∷ []) links → total w links ≤ total w ls
  steepest root ls r links g inside h =
      let members : (i : ℕ) → has i (r ∷ []) ≡ true → set i ≡ true =
      λ i k. elim (or_cases (eqb i r) false k) [ inl e ↦ ap set (eqb-true i r e) ∙ inside | inr f ↦ absurd (both_ways false refl f) ] in
      omega (arith, rooted-grows root (r ∷ []) links ls g h members, rooted-le-total root (listed_by (r ∷ []) links) ls)

  span-grows : (listed s : List ℕ) (links ls : List Link) → Steep w set listed ls → Grows set s links
      → ((r : ℕ) → has r listed ≡ true → has r s ≡ true) → ((r : ℕ) → has r s ≡ true → has r listed ≡ false → set r ≡ true)
      → total w links + span w W s W ls ≤ span w W (listed_by s links) W ls
  span-grows listed s [] ls g h below members = omega arith
  span-grows listed s (l ∷ links) ls g h below members =
      let fresh : has l.child listed ≡ false = false_from_ne_true (has l.child listed) (λ k. both_ways (has l.child s) h.1 (below l.child k)) in
      let one : w l.child l.parent + span w W s W ls ≤ span w W (l.child ∷ s) W ls = span-more l.parent l.child s W listed ls g h.2 (λ k. refl) fresh (members l.parent h.2) h.0 h.1 (omega arith) in
      let more : (r : ℕ) → has r (l.child ∷ s) ≡ true → has r listed ≡ false → set r ≡ true =
      λ r k out. elim (or_cases (eqb r l.child) (has r s) k) [ inl e ↦ ap set (eqb-true r l.child e) ∙ h.0 | inr i ↦ members r i out ] in
      let rest : total w links + span w W (l.child ∷ s) W ls ≤ span w W (listed_by (l.child ∷ s) links) W ls =
      span-grows listed (l.child ∷ s) links ls g h.3 (λ r k. has-kept r l.child s (below r k)) more in
      omega arith

  -- the same from a listed set on, where the other list has listed it too
  pub steepest_from : (listed s : List ℕ) (links ls : List Link) → Steep w set listed ls → Grows set s links
      → ((r : ℕ) → has r listed ≡ true → has r s ≡ true) → ((r : ℕ) → has r s ≡ true → has r listed ≡ false → set r ≡ true)
      → total w links ≤ total w ls
  steepest_from listed s links ls g h below members =
      omega (arith, span-grows listed s links ls g h below members, span-le-total w W (listed_by s links) W ls)
