-- Parts that derive the same: a common beginning may stand before the alternatives.
use Rattle.std.proofs.Common.{◌≡◌, ℕ, true, List, ◌∷◌, refl, sym, ◌∙◌, ap, arith, inl, inr}
use Rattle.sql_lex.specs.declared.tokens.Token.{Token}
use Rattle.sql_grammar.specs.Grammar.{Part, ◌▸◌, ◌∣◌, Tree, text, depth, Front, front_text, front_depth, Both, Left, Right, Empty, Early, Later, LeftOf, RightOf}
use Rattle.sql_grammar.specs.Reading.{subset, after, Reads, Stops, Deepens}
use Rattle.sql_grammar.proofs.Sets.{Heads_subset}

pub record Same (p q : Part) : Type 0 where
  pub to : Tree p → Tree q
  pub back : Tree q → Tree p
  pub to_text : (d : Tree p) (us : List Token) → text (to d) us ≡ text d us
  pub back_text : (d : Tree q) (us : List Token) → text (back d) us ≡ text d us
  pub to_depth : (d : Tree p) → depth (to d) ≡ depth d
  pub to_back : (d : Tree q) → to (back d) ≡ d
  pub front_to : Front p → Front q
  pub front_back : Front q → Front p
  pub front_to_text : (f : Front p) (us : List Token) → front_text (front_to f) us ≡ front_text f us
  pub front_to_depth : (f : Front p) → front_depth (front_to f) ≡ front_depth f
  pub front_back_text : (f : Front q) (us : List Token) → front_text (front_back f) us ≡ front_text f us
  pub front_back_depth : (f : Front q) → front_depth (front_back f) ≡ front_depth f

module _ {p q : Part} (s : Same p q) (within : subset (after p) (after q) ≡ true) where
  pub reads_same : {n : ℕ} {ts rest : List Token} {d : Tree p} → Reads n ts d rest → Reads n ts (s.to d) rest
  reads_same {n} {ts} {rest} {d} h = record {
    spells = s.to_text d rest ∙ h.spells;
    within = (let w = h.within in let e = s.to_depth d in omega arith);
    far = λ f us e. h.far (s.front_back f) us (s.front_back_text f us ∙ e);
    only = λ a us e. elim (h.only (s.back a) us (s.back_text a us ∙ e)) [
      | inl k ↦ inl (k.0, sym (s.to_back a) ∙ ap s.to k.1)
      | inr k ↦ inr (Heads_subset (after p) (after q) us within k)
    ];
  }

  pub stops_same : {n : ℕ} {ts rest : List Token} → Stops p n ts rest → Stops q n ts rest
  stops_same {n} {ts} {rest} h = record {
    front = (s.front_to h.front.0, s.front_to_text h.front.0 rest ∙ h.front.1, (let w = h.front.2 in let e = s.front_to_depth h.front.0 in omega arith));
    far = λ f us e. h.far (s.front_back f) us (s.front_back_text f us ∙ e);
    only = λ a us e. Heads_subset (after p) (after q) us within (h.only (s.back a) us (s.back_text a us ∙ e));
  }

  pub deep_same : {n : ℕ} {ts rest : List Token} {t : Token} → Deepens p n ts t rest → Deepens q n ts t rest
  deep_same {n} {ts} {rest} {t} h = record {
    before = (s.front_to h.before.0, s.front_to_text h.before.0 (t ∷ rest) ∙ h.before.1, (let w = h.before.2 in let e = s.front_to_depth h.before.0 in omega arith));
    opens = (s.front_to h.opens.0, s.front_to_text h.opens.0 rest ∙ h.opens.1, s.front_to_depth h.opens.0 ∙ h.opens.2);
    least = λ f us e le. (let k = h.least (s.front_back f) us (s.front_back_text f us ∙ e) le in let d = s.front_back_depth f in omega arith);
    only = λ a us e. elim (h.only (s.back a) us (s.back_text a us ∙ e)) [ inl k ↦ inl k | inr k ↦ inr (Heads_subset (after p) (after q) us within k) ];
  }

module _ {a x y : Part} where
  abbrev pub factor : Tree (a ▸ (x ∣ y)) → Tree (a ▸ x ∣ a ▸ y)
  factor (Both d (Left e)) = Left (Both d e)
  factor (Both d (Right e)) = Right (Both d e)

  abbrev pub unfactor : Tree (a ▸ x ∣ a ▸ y) → Tree (a ▸ (x ∣ y))
  unfactor (Left (Both d e)) = Both d (Left e)
  unfactor (Right (Both d e)) = Both d (Right e)

  pub factor_text : (d : Tree (a ▸ (x ∣ y))) (us : List Token) → text (factor d) us ≡ text d us
  factor_text (Both d (Left e)) us = refl
  factor_text (Both d (Right e)) us = refl

  pub unfactor_text : (d : Tree (a ▸ x ∣ a ▸ y)) (us : List Token) → text (unfactor d) us ≡ text d us
  unfactor_text (Left (Both d e)) us = refl
  unfactor_text (Right (Both d e)) us = refl

  pub factor_depth : (d : Tree (a ▸ (x ∣ y))) → depth (factor d) ≡ depth d
  factor_depth (Both d (Left e)) = refl
  factor_depth (Both d (Right e)) = refl

  pub factor_unfactor : (d : Tree (a ▸ x ∣ a ▸ y)) → factor (unfactor d) ≡ d
  factor_unfactor (Left (Both d e)) = refl
  factor_unfactor (Right (Both d e)) = refl

  abbrev pub front_factor : Front (a ▸ (x ∣ y)) → Front (a ▸ x ∣ a ▸ y)
  front_factor Empty = Empty
  front_factor (Early f) = LeftOf (Early f)
  front_factor (Later d Empty) = LeftOf (Later d Empty)
  front_factor (Later d (LeftOf f)) = LeftOf (Later d f)
  front_factor (Later d (RightOf f)) = RightOf (Later d f)

  abbrev pub front_unfactor : Front (a ▸ x ∣ a ▸ y) → Front (a ▸ (x ∣ y))
  front_unfactor Empty = Empty
  front_unfactor (LeftOf Empty) = Empty
  front_unfactor (RightOf Empty) = Empty
  front_unfactor (LeftOf (Early f)) = Early f
  front_unfactor (RightOf (Early f)) = Early f
  front_unfactor (LeftOf (Later d f)) = Later d (LeftOf f)
  front_unfactor (RightOf (Later d f)) = Later d (RightOf f)

  pub front_factor_text : (f : Front (a ▸ (x ∣ y))) (us : List Token) → front_text (front_factor f) us ≡ front_text f us
  front_factor_text Empty us = refl
  front_factor_text (Early f) us = refl
  front_factor_text (Later d Empty) us = refl
  front_factor_text (Later d (LeftOf f)) us = refl
  front_factor_text (Later d (RightOf f)) us = refl

  pub front_factor_depth : (f : Front (a ▸ (x ∣ y))) → front_depth (front_factor f) ≡ front_depth f
  front_factor_depth Empty = refl
  front_factor_depth (Early f) = refl
  front_factor_depth (Later d Empty) = refl
  front_factor_depth (Later d (LeftOf f)) = refl
  front_factor_depth (Later d (RightOf f)) = refl

  pub front_unfactor_text : (f : Front (a ▸ x ∣ a ▸ y)) (us : List Token) → front_text (front_unfactor f) us ≡ front_text f us
  front_unfactor_text Empty us = refl
  front_unfactor_text (LeftOf Empty) us = refl
  front_unfactor_text (RightOf Empty) us = refl
  front_unfactor_text (LeftOf (Early f)) us = refl
  front_unfactor_text (RightOf (Early f)) us = refl
  front_unfactor_text (LeftOf (Later d f)) us = refl
  front_unfactor_text (RightOf (Later d f)) us = refl

  pub front_unfactor_depth : (f : Front (a ▸ x ∣ a ▸ y)) → front_depth (front_unfactor f) ≡ front_depth f
  front_unfactor_depth Empty = refl
  front_unfactor_depth (LeftOf Empty) = refl
  front_unfactor_depth (RightOf Empty) = refl
  front_unfactor_depth (LeftOf (Early f)) = refl
  front_unfactor_depth (RightOf (Early f)) = refl
  front_unfactor_depth (LeftOf (Later d f)) = refl
  front_unfactor_depth (RightOf (Later d f)) = refl

  -- a common beginning may stand before the alternatives
  abbrev pub factored : Same (a ▸ (x ∣ y)) (a ▸ x ∣ a ▸ y)
  factored = record {
    to = factor;
    back = unfactor;
    to_text = factor_text;
    back_text = unfactor_text;
    to_depth = factor_depth;
    to_back = factor_unfactor;
    front_to = front_factor;
    front_back = front_unfactor;
    front_to_text = front_factor_text;
    front_to_depth = front_factor_depth;
    front_back_text = front_unfactor_text;
    front_back_depth = front_unfactor_depth;
  }

module _ {a b c : Part} where
  abbrev pub ungroup : Tree ((a ▸ b) ▸ c) → Tree (a ▸ b ▸ c)
  ungroup (Both (Both x y) z) = Both x (Both y z)

  abbrev pub group : Tree (a ▸ b ▸ c) → Tree ((a ▸ b) ▸ c)
  group (Both x (Both y z)) = Both (Both x y) z

  pub ungroup_text : (d : Tree ((a ▸ b) ▸ c)) (us : List Token) → text (ungroup d) us ≡ text d us
  ungroup_text (Both (Both x y) z) us = refl

  pub group_text : (d : Tree (a ▸ b ▸ c)) (us : List Token) → text (group d) us ≡ text d us
  group_text (Both x (Both y z)) us = refl

  pub ungroup_depth : (d : Tree ((a ▸ b) ▸ c)) → depth (ungroup d) ≡ depth d
  ungroup_depth (Both (Both x y) z) = omega arith

  pub ungroup_group : (d : Tree (a ▸ b ▸ c)) → ungroup (group d) ≡ d
  ungroup_group (Both x (Both y z)) = refl

  abbrev pub front_ungroup : Front ((a ▸ b) ▸ c) → Front (a ▸ b ▸ c)
  front_ungroup Empty = Empty
  front_ungroup (Early Empty) = Empty
  front_ungroup (Early (Early f)) = Early f
  front_ungroup (Early (Later x f)) = Later x (Early f)
  front_ungroup (Later (Both x y) f) = Later x (Later y f)

  abbrev pub front_group : Front (a ▸ b ▸ c) → Front ((a ▸ b) ▸ c)
  front_group Empty = Empty
  front_group (Early f) = Early (Early f)
  front_group (Later x Empty) = Early (Later x Empty)
  front_group (Later x (Early f)) = Early (Later x f)
  front_group (Later x (Later y f)) = Later (Both x y) f

  pub front_ungroup_text : (f : Front ((a ▸ b) ▸ c)) (us : List Token) → front_text (front_ungroup f) us ≡ front_text f us
  front_ungroup_text Empty us = refl
  front_ungroup_text (Early Empty) us = refl
  front_ungroup_text (Early (Early f)) us = refl
  front_ungroup_text (Early (Later x f)) us = refl
  front_ungroup_text (Later (Both x y) f) us = refl

  pub front_ungroup_depth : (f : Front ((a ▸ b) ▸ c)) → front_depth (front_ungroup f) ≡ front_depth f
  front_ungroup_depth Empty = refl
  front_ungroup_depth (Early Empty) = refl
  front_ungroup_depth (Early (Early f)) = refl
  front_ungroup_depth (Early (Later x f)) = refl
  front_ungroup_depth (Later (Both x y) f) = omega arith

  pub front_group_text : (f : Front (a ▸ b ▸ c)) (us : List Token) → front_text (front_group f) us ≡ front_text f us
  front_group_text Empty us = refl
  front_group_text (Early f) us = refl
  front_group_text (Later x Empty) us = refl
  front_group_text (Later x (Early f)) us = refl
  front_group_text (Later x (Later y f)) us = refl

  pub front_group_depth : (f : Front (a ▸ b ▸ c)) → front_depth (front_group f) ≡ front_depth f
  front_group_depth Empty = refl
  front_group_depth (Early f) = refl
  front_group_depth (Later x Empty) = omega arith
  front_group_depth (Later x (Early f)) = refl
  front_group_depth (Later x (Later y f)) = omega arith

  -- two parts that one function reads
  abbrev pub regrouped : Same ((a ▸ b) ▸ c) (a ▸ b ▸ c)
  regrouped = record {
    to = ungroup;
    back = group;
    to_text = ungroup_text;
    back_text = group_text;
    to_depth = ungroup_depth;
    to_back = ungroup_group;
    front_to = front_ungroup;
    front_back = front_group;
    front_to_text = front_ungroup_text;
    front_to_depth = front_ungroup_depth;
    front_back_text = front_group_text;
    front_back_depth = front_group_depth;
  }

module _ {p q : Part} (s : Same p q) (a : Part) where
  abbrev pub right_to : Tree (a ∣ p) → Tree (a ∣ q)
  right_to (Left d) = Left d
  right_to (Right d) = Right (s.to d)

  abbrev pub right_back : Tree (a ∣ q) → Tree (a ∣ p)
  right_back (Left d) = Left d
  right_back (Right d) = Right (s.back d)

  abbrev pub right_front_to : Front (a ∣ p) → Front (a ∣ q)
  right_front_to Empty = Empty
  right_front_to (LeftOf f) = LeftOf f
  right_front_to (RightOf f) = RightOf (s.front_to f)

  abbrev pub right_front_back : Front (a ∣ q) → Front (a ∣ p)
  right_front_back Empty = Empty
  right_front_back (LeftOf f) = LeftOf f
  right_front_back (RightOf f) = RightOf (s.front_back f)

  pub right_to_text : (d : Tree (a ∣ p)) (us : List Token) → text (right_to d) us ≡ text d us
  right_to_text (Left d) us = refl
  right_to_text (Right d) us = s.to_text d us

  pub right_back_text : (d : Tree (a ∣ q)) (us : List Token) → text (right_back d) us ≡ text d us
  right_back_text (Left d) us = refl
  right_back_text (Right d) us = s.back_text d us

  pub right_to_depth : (d : Tree (a ∣ p)) → depth (right_to d) ≡ depth d
  right_to_depth (Left d) = refl
  right_to_depth (Right d) = s.to_depth d

  pub right_to_back : (d : Tree (a ∣ q)) → right_to (right_back d) ≡ d
  right_to_back (Left d) = refl
  right_to_back (Right d) = ap (λ (x : Tree q). wrap x) (s.to_back d)
    where
      wrap : Tree q → Tree (a ∣ q)
      wrap x = Right x

  pub right_front_to_text : (f : Front (a ∣ p)) (us : List Token) → front_text (right_front_to f) us ≡ front_text f us
  right_front_to_text Empty us = refl
  right_front_to_text (LeftOf f) us = refl
  right_front_to_text (RightOf f) us = s.front_to_text f us

  pub right_front_to_depth : (f : Front (a ∣ p)) → front_depth (right_front_to f) ≡ front_depth f
  right_front_to_depth Empty = refl
  right_front_to_depth (LeftOf f) = refl
  right_front_to_depth (RightOf f) = s.front_to_depth f

  pub right_front_back_text : (f : Front (a ∣ q)) (us : List Token) → front_text (right_front_back f) us ≡ front_text f us
  right_front_back_text Empty us = refl
  right_front_back_text (LeftOf f) us = refl
  right_front_back_text (RightOf f) us = s.front_back_text f us

  pub right_front_back_depth : (f : Front (a ∣ q)) → front_depth (right_front_back f) ≡ front_depth f
  right_front_back_depth Empty = refl
  right_front_back_depth (LeftOf f) = refl
  right_front_back_depth (RightOf f) = s.front_back_depth f

  -- the second alternative may be any that derives the same
  abbrev pub at_right_same : Same (a ∣ p) (a ∣ q)
  at_right_same = record {
    to = right_to;
    back = right_back;
    to_text = right_to_text;
    back_text = right_back_text;
    to_depth = right_to_depth;
    to_back = right_to_back;
    front_to = right_front_to;
    front_back = right_front_back;
    front_to_text = right_front_to_text;
    front_to_depth = right_front_to_depth;
    front_back_text = right_front_back_text;
    front_back_depth = right_front_back_depth;
  }

abbrev pub then_same : {p q r : Part} → Same p q → Same q r → Same p r
then_same s t = record {
  to = λ d. t.to (s.to d);
  back = λ d. s.back (t.back d);
  to_text = λ d us. t.to_text (s.to d) us ∙ s.to_text d us;
  back_text = λ d us. s.back_text (t.back d) us ∙ t.back_text d us;
  to_depth = λ d. t.to_depth (s.to d) ∙ s.to_depth d;
  to_back = λ d. ap t.to (s.to_back (t.back d)) ∙ t.to_back d;
  front_to = λ f. t.front_to (s.front_to f);
  front_back = λ f. s.front_back (t.front_back f);
  front_to_text = λ f us. t.front_to_text (s.front_to f) us ∙ s.front_to_text f us;
  front_to_depth = λ f. t.front_to_depth (s.front_to f) ∙ s.front_to_depth f;
  front_back_text = λ f us. s.front_back_text (t.front_back f) us ∙ t.front_back_text f us;
  front_back_depth = λ f. s.front_back_depth (t.front_back f) ∙ t.front_back_depth f;
}
