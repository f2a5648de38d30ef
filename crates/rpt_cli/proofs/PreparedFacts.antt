-- That there is one way in which a query is prepared or refused.
use Rattle.std.proofs.Common.{◌≡◌, ◌∙◌, ◌⊎◌, inl, inr, ap, sym, subst, refl, ℕ, ◌<◌, List}
use Rattle.std.specs.Prelude.{Bool, true, false, Option, None, Some, Result, Ok, Err}
use Rattle.column_classes.specs.Variables.{AreQueryVariables, QueryVariables}
use Rattle.column_classes.specs.declared.columns.Equality.{Equality}
use Rattle.join_graph.specs.JoinList.{IsAcyclic}
use Rattle.largest_root.specs.Greedy.{IsCyclic}
use Rattle.safe_subjoin.specs.SafeOrder.{IsFirstUnsafe}
use Rattle.rpt_engine.specs.Prepared.{IsAllowed, IsUnsafeAt}
use Rattle.rpt_cli.specs.Steps.{PassesUnasked, StopsUnasked}
use Rattle.bound_query.specs.Query.{Query, widths_of}
use Rattle.refusal_lines.specs.declared.errors.Refusal.{Refusal}
use Rattle.refusal_lines.specs.declared.errors.Refusal.TheVariants.{Usage, ReadFault, TooLarge, Lex, Syntax, TooDeep, Bind, Cyclic, OrderNames, UnsafeOrder, Header, Ragged, BadField, NotUtf8, TooManyRows, RowsOverflow, WriteFault, Memory}
use Rattle.rpt_cli.specs.Course.{Finds, IsFoundAs}
use Rattle.rpt_cli.specs.Matters.{AreKnown, IsPrepared, Prepared, Preparing}
use Rattle.rpt_cli.specs.Orders.{order_of}
use Rattle.rpt_cli.proofs.Courses.{finds-Gives, refuses-Gives}

-- why a query isn't prepared
pub data Refused (query : Query) (order : Option (List ℕ)) (force : Bool) : Refusal → Type 0 where
  ByCycle : (best needed : ℕ) (known : QueryVariables) → AreKnown query known → IsCyclic known.sets best needed → Refused query order force (Cyclic best needed)
  ByNames : (known : QueryVariables) → AreKnown query known → IsAcyclic known.sets → order_of query order ≡ None → Refused query order force OrderNames
  ByPrefix : (prefix : ℕ) (known : QueryVariables) → AreKnown query known → IsAcyclic known.sets → (named : Option (List ℕ)) → order_of query order ≡ Some named
      → IsUnsafeAt known.sets named force prefix → Refused query order force (UnsafeOrder prefix)

pub why-refused : (query : Query) (order : Option (List ℕ)) (force : Bool) (e : Refusal) → IsPrepared query order force (Err e) → Refused query order force e
why-refused query order force (Cyclic best needed) h = ByCycle best needed h.0 h.1 h.2
why-refused query order force OrderNames h = ByNames h.0 h.1 h.2 h.3
why-refused query order force (UnsafeOrder prefix) h = ByPrefix prefix h.0 h.1 h.2 h.3 h.4 h.5
why-refused query order force Usage h = absurd h
why-refused query order force (ReadFault name) h = absurd h
why-refused query order force (TooLarge name) h = absurd h
why-refused query order force (Lex offset) h = absurd h
why-refused query order force (Syntax offset) h = absurd h
why-refused query order force (TooDeep offset) h = absurd h
why-refused query order force (Bind kind offset) h = absurd h
why-refused query order force (Header table column) h = absurd h
why-refused query order force (Ragged table row) h = absurd h
why-refused query order force (BadField table row column) h = absurd h
why-refused query order force (NotUtf8 table row column) h = absurd h
why-refused query order force TooManyRows h = absurd h
why-refused query order force (RowsOverflow prefix) h = absurd h
why-refused query order force WriteFault h = absurd h
why-refused query order force Memory h = absurd h

-- what the lower crates' laws say: a query has one list of variables, and one reason why it is refused
pub record HasOneReason : Type 0 where
  pub variables : (widths : List ℕ) (equalities : List Equality) (a b : QueryVariables) → AreQueryVariables widths equalities a → AreQueryVariables widths equalities b → a ≡ b
  pub cyclic : (vs : List (List ℕ)) (a m b n : ℕ) → IsCyclic vs a m → IsCyclic vs b n → (a ≡ b) × (m ≡ n)
  pub prefix : (vs : List (List ℕ)) (order : List ℕ) (a b : ℕ) → IsFirstUnsafe vs order a → IsFirstUnsafe vs order b → a ≡ b

unsafe-one : HasOneReason → (vs : List (List ℕ)) (order : Option (List ℕ)) (force : Bool) (a b : ℕ) → IsUnsafeAt vs order force a → IsUnsafeAt vs order force b → a ≡ b
unsafe-one laws vs None force a b p q = absurd p
unsafe-one laws vs (Some order) true a b p q = absurd p
unsafe-one laws vs (Some order) false a b p q = laws.prefix vs order a b p q

-- what is allowed has no unsafe prefix
allowed-safe : (vs : List (List ℕ)) (order : Option (List ℕ)) (force : Bool) (prefix : ℕ) → IsAllowed vs order force → IsUnsafeAt vs order force prefix → ⊥
allowed-safe vs None force prefix allowed at = at
allowed-safe vs (Some order) true prefix allowed at = at
allowed-safe vs (Some order) false prefix allowed at = at.unsafe (allowed prefix at.some at.within)

some-same : {X : Type 0} (a b : X) → ◌≡◌ {A = Option X} (Some a) (Some b) → a ≡ b
some-same a b e = cc

none-some : {X : Type 0} (a : X) → ◌≡◌ {A = Option X} None (Some a) → ⊥
none-some a e = cc e

module _ (laws : HasOneReason) (query : Query) (order : Option (List ℕ)) (force : Bool) where
  one-known : (a b : QueryVariables) → AreKnown query a → AreKnown query b → a ≡ b
  one-known a b p q = laws.variables (widths_of query) query.equalities a b p q

  -- a cycle is none of other variables
  not-both : (a b : QueryVariables) (best needed : ℕ) → AreKnown query a → AreKnown query b → IsAcyclic a.sets → IsCyclic b.sets best needed → ⊥
  not-both a b best needed p q acyclic cyclic = cyclic.none (subst (λ (k : QueryVariables). IsAcyclic k.sets) (one-known a b p q) acyclic)

  one-refusal : (e f : Refusal) → Refused query order force e → Refused query order force f → f ≡ e
  one-refusal e f (ByCycle best needed a p cyclic) (ByCycle most sum b q other) =
      let here : IsCyclic a.sets most sum = subst (λ (k : QueryVariables). IsCyclic k.sets most sum) (one-known b a q p) other in
      let same = laws.cyclic a.sets most sum best needed here cyclic in
      rw (same.0, same.1) refl
  one-refusal e f (ByCycle best needed a p cyclic) (ByNames b q acyclic none) = absurd (not-both b a best needed q p acyclic cyclic)
  one-refusal e f (ByCycle best needed a p cyclic) (ByPrefix prefix b q acyclic named is at) = absurd (not-both b a best needed q p acyclic cyclic)
  one-refusal e f (ByNames a p acyclic none) (ByCycle most sum b q cyclic) = absurd (not-both a b most sum p q acyclic cyclic)
  one-refusal e f (ByNames a p acyclic none) (ByNames b q other nones) = refl
  one-refusal e f (ByNames a p acyclic none) (ByPrefix prefix b q other named is at) = absurd (none-some named (sym none ∙ is))
  one-refusal e f (ByPrefix prefix a p acyclic named is at) (ByCycle most sum b q cyclic) = absurd (not-both a b most sum p q acyclic cyclic)
  one-refusal e f (ByPrefix prefix a p acyclic named is at) (ByNames b q other none) = absurd (none-some named (sym none ∙ is))
  one-refusal e f (ByPrefix prefix a p acyclic named is at) (ByPrefix last b q other name names there) =
      let same : name ≡ named = some-same name named (sym names ∙ is) in
      let here : IsUnsafeAt a.sets named force last =
      subst (λ (k : QueryVariables). IsUnsafeAt k.sets named force last) (one-known b a q p) (subst (λ (o : Option (List ℕ)). IsUnsafeAt b.sets o force last) same there) in
      ap (λ (n : ℕ). UnsafeOrder n) (unsafe-one laws a.sets named force last prefix here at)

  not-refused : (found : Prepared) (e : Refusal) → IsPrepared query order force (Ok found) → Refused query order force e → ⊥
  not-refused found e h (ByCycle best needed b q cyclic) = not-both found.known b best needed h.0 q h.1 cyclic
  not-refused found e h (ByNames b q acyclic none) = none-some found.order (sym none ∙ h.2)
  not-refused found e h (ByPrefix prefix b q acyclic named is at) =
      let same : named ≡ found.order = some-same named found.order (sym is ∙ h.2) in
      let here : IsUnsafeAt found.known.sets found.order force prefix =
      subst (λ (k : QueryVariables). IsUnsafeAt k.sets found.order force prefix) (one-known b found.known q h.0) (subst (λ (o : Option (List ℕ)). IsUnsafeAt b.sets o force prefix) same at) in
      allowed-safe found.known.sets found.order force prefix h.3 here

  one-found : (a b : Prepared) → IsPrepared query order force (Ok a) → IsPrepared query order force (Ok b) → b ≡ a
  one-found a b h k =
      let known : b.known ≡ a.known = one-known b.known a.known k.0 h.0 in
      let named : b.order ≡ a.order = some-same b.order a.order (sym k.2 ∙ h.2) in
      λ i. record { known = known i; order = named i }

  -- a query is prepared in one way, or refused in one
  pub prepared-only : (a b : Result Prepared Refusal) → IsPrepared query order force a → IsPrepared query order force b → b ≡ a
  prepared-only (Ok a) (Ok b) h k = ap Ok (one-found a b h k)
  prepared-only (Ok a) (Err e) h k = absurd (not-refused a e h (why-refused query order force e k))
  prepared-only (Err e) (Ok b) h k = absurd (not-refused b e k (why-refused query order force e h))
  prepared-only (Err e) (Err f) h k = ap Err (one-refusal e f (why-refused query order force e h) (why-refused query order force f k))

-- a query that is prepared is passed, and one that is refused ends the course
module _ (laws : HasOneReason) (query : Query) (order : Option (List ℕ)) (force : Bool) where
  pub prepared-Passes : (found : Prepared) → IsPrepared query order force (Ok found) → PassesUnasked (Finds (Preparing query order force)) found
  prepared-Passes found is = λ files next reply gives.
      finds-Gives files (Preparing query order force) next found reply (is, λ other other_is. prepared-only laws query order force (Ok found) other is other_is) gives

  pub prepared-Stops : (e : Refusal) → (e ≡ Memory) ⊎ IsPrepared query order force (Err e) → StopsUnasked (Finds (Preparing query order force)) e
  prepared-Stops e is = λ files next. refuses-Gives files (Preparing query order force) next e (found is)
    where
      found : (e ≡ Memory) ⊎ IsPrepared query order force (Err e) → (e ≡ Memory) ⊎ IsFoundAs (Preparing query order force) (Err e)
      found (inl memory) = inl memory
      found (inr h) = inr (h, λ other other_is. prepared-only laws query order force (Err e) other h other_is)
