-- A derivation is a front, and what may come first.
use Rattle.std.proofs.Common.{◌≡◌, ◌+◌, ◌≤◌, ◌<◌, Bool, true, false, List, ◌∷◌, length, refl, ap, arith}
use Rattle.std.specs.Prelude.{◌||◌, ◌&&◌, max}
use Rattle.sql_lex.specs.declared.tokens.Token.{Token}
use Rattle.sql_grammar.specs.Grammar.{Line, script, create, column, select, items, item, source, factor, colref, cond, conj, neg, prim, operand, literal, rule, Part, Tree, text, depth, Front, front_text, front_depth, Leaf, None, Both, Left, Right, End, More, In, By, Empty, Whole, Early, Later, LeftOf, RightOf, Item, Beyond, Inside, ByLine}
use Rattle.sql_grammar.specs.Reading.{subset, first, after, nullable, first_line, after_line}

abbrev pub whole : {p : Part} → Tree p → Front p
whole (Leaf t is) = Whole t is
whole None = Empty
whole (Both a b) = Later a (whole b)
whole (Left a) = LeftOf (whole a)
whole (Right b) = RightOf (whole b)
whole End = Empty
whole (More a more) = Beyond a (whole more)
whole (In t is a) = Inside t is (whole a)
whole (By a) = ByLine (whole a)

pub whole_text : {p : Part} (d : Tree p) (us : List Token) → front_text (whole d) us ≡ text d us
whole_text (Leaf t is) us = refl
whole_text None us = refl
whole_text (Both a b) us = ap (text a) (whole_text b us)
whole_text (Left a) us = whole_text a us
whole_text (Right b) us = whole_text b us
whole_text End us = refl
whole_text (More a more) us = ap (text a) (whole_text more us)
whole_text (In t is a) us = ap (λ ts. t ∷ ts) (whole_text a us)
whole_text (By a) us = whole_text a us

pub whole_depth : {p : Part} (d : Tree p) → front_depth (whole d) ≡ depth d
whole_depth (Leaf t is) = refl
whole_depth None = refl
whole_depth (Both a b) = ap (max (depth a)) (whole_depth b)
whole_depth (Left a) = whole_depth a
whole_depth (Right b) = whole_depth b
whole_depth End = refl
whole_depth (More a more) = ap (max (depth a)) (whole_depth more)
whole_depth (In t is a) = ap (λ n. n + 1) (whole_depth a)
whole_depth (By a) = whole_depth a

pub longer : {p : Part} (d : Tree p) (us : List Token) → length us ≤ length (text d us)
longer (Leaf t is) us = omega arith
longer None us = omega arith
longer (Both a b) us = omega (arith, longer a (text b us), longer b us)
longer (Left a) us = longer a us
longer (Right b) us = longer b us
longer End us = omega arith
longer (More a more) us = omega (arith, longer a (text more us), longer more us)
longer (In t is a) us = omega (arith, longer a us)
longer (By a) us = longer a us

pub longer_front : {p : Part} (f : Front p) (us : List Token) → length us ≤ length (front_text f us)
longer_front Empty us = omega arith
longer_front (Whole t is) us = omega arith
longer_front (Early f) us = longer_front f us
longer_front (Later a f) us = omega (arith, longer a (front_text f us), longer_front f us)
longer_front (LeftOf f) us = longer_front f us
longer_front (RightOf f) us = longer_front f us
longer_front (Item f) us = longer_front f us
longer_front (Beyond a f) us = omega (arith, longer a (front_text f us), longer_front f us)
longer_front (Inside t is f) us = omega (arith, longer_front f us)
longer_front (ByLine f) us = longer_front f us

pub first_ok : (l : Line) → subset (first (rule l)) (first_line l) ≡ true
first_ok script = refl
first_ok create = refl
first_ok column = refl
first_ok select = refl
first_ok items = refl
first_ok item = refl
first_ok source = refl
first_ok factor = refl
first_ok colref = refl
first_ok cond = refl
first_ok conj = refl
first_ok neg = refl
first_ok prim = refl
first_ok operand = refl
first_ok literal = refl

pub after_ok : (l : Line) → subset (after (rule l)) (after_line l) ≡ true
after_ok script = refl
after_ok create = refl
after_ok column = refl
after_ok select = refl
after_ok items = refl
after_ok item = refl
after_ok source = refl
after_ok factor = refl
after_ok colref = refl
after_ok cond = refl
after_ok conj = refl
after_ok neg = refl
after_ok prim = refl
after_ok operand = refl
after_ok literal = refl

pub nullable_ok : (l : Line) → nullable (rule l) ≡ false
nullable_ok script = refl
nullable_ok create = refl
nullable_ok column = refl
nullable_ok select = refl
nullable_ok items = refl
nullable_ok item = refl
nullable_ok source = refl
nullable_ok factor = refl
nullable_ok colref = refl
nullable_ok cond = refl
nullable_ok conj = refl
nullable_ok neg = refl
nullable_ok prim = refl
nullable_ok operand = refl
nullable_ok literal = refl

-- a derivation of a part that isn't nullable has a token
pub longer_some : {p : Part} (d : Tree p) (us : List Token) → nullable p ≡ false → length us < length (text d us)
longer_some (Leaf t is) us e = omega arith
longer_some None us e = absurd cc
longer_some (Both {p = p} {q = q} a b) us e = go (nullable p) (nullable q) e (longer_some a (text b us)) (longer_some b us)
  where
    go : (m n : Bool) → (m && n) ≡ false → (m ≡ false → length (text b us) < length (text a (text b us))) → (n ≡ false → length us < length (text b us)) → length us < length (text a (text b us))
    go true n h first second = let k = longer a (text b us) in let j = second h in omega arith
    go false n h first second = let k = longer b us in let j = first refl in omega arith
longer_some (Left {p = p} {q = q} a) us e = go (nullable p) e (longer_some a us)
  where
    go : (m : Bool) → (m || nullable q) ≡ false → (m ≡ false → length us < length (text a us)) → length us < length (text a us)
    go true h some = absurd cc
    go false h some = some refl
longer_some (Right {p = p} {q = q} b) us e = go (nullable p) e (longer_some b us)
  where
    go : (m : Bool) → (m || nullable q) ≡ false → (nullable q ≡ false → length us < length (text b us)) → length us < length (text b us)
    go true h some = absurd cc
    go false h some = some h
longer_some End us e = absurd cc
longer_some (More a more) us e = absurd cc
longer_some (In t is a) us e = let k = longer a us in omega arith
longer_some (By {l = l} a) us e = longer_some a us (nullable_ok l)
