use Rattle.std.proofs.Common.{ℕ, sym, ap, List}
use Rattle.sql_grammar.specs.Grammar.{Leaf, names}
use Rattle.sql_grammar.specs.declared.tree.Alias.{Alias}
use Rattle.sql_grammar.proofs.Leads.{reads_one, none_among, refused}
use Rattle.sql_grammar.proofs.leaves.name.Goals as goal

pub returns-in_ok-name-in-Some : goal.returns-in_ok-name-in-Some
returns-in_ok-name-in-Some c n =
    let t = c.in-Some.token.now in
    let h = c.in-Some.ensures.some in
    record { tree = Leaf {kinds = names} t h.1; reads = reads_one {kinds = names} t c.in-Some.rest.now h.0 h.1; value = ap (called t.start) (sym c.in_ok-name-in-Some.ensures) }
  where
    called : ℕ → List ℕ → Alias
    called at name = record { at = at; name = name }

pub returns-in-None : goal.returns-in-None
returns-in-None c n = refused n c.args.tokens.now c.args.end _ (none_among names c.in-None.ensures.none) c.place_of.ensures
