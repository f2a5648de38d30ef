-- The members that OR and AND join.
use Rattle.std.proofs.Common.{◌≡◌, List, ◌∷◌, sym}
use Rattle.sql_grammar.specs.declared.kinds.Kind.TheVariants as k
use Rattle.sql_grammar.specs.declared.tree.Cond.{Cond}
use Rattle.sql_grammar.specs.declared.tree.Cond.TheVariants as c
use Rattle.sql_grammar.specs.Grammar.{word, many, line, Tree, Both, By, ◌▸◌}
use Rattle.sql_grammar.specs.Grammar as g
use Rattle.sql_grammar.specs.Meaning.{cond_of, conj_of, neg_of, conjs_of, negs_of, joined_conditions}

abbrev pub disjuncts : Tree (line g.conj ▸ many (word k.Or ▸ line g.conj)) → List Cond
disjuncts (Both first more) = conj_of first ∷ conjs_of more

abbrev pub conjuncts : Tree (line g.neg ▸ many (word k.And ▸ line g.neg)) → List Cond
conjuncts (Both first more) = neg_of first ∷ negs_of more

pub or_joins : (d : Tree (line g.conj ▸ many (word k.Or ▸ line g.conj))) (found : List Cond) (all : Cond) → disjuncts d ≡ found → ((first : Cond) (more : List Cond) → found ≡ first ∷ more → all ≡ joined_conditions c.Or first more) → cond_of (By d) ≡ all
or_joins (Both first more) found all same h = sym (h (conj_of first) (conjs_of more) (sym same))

pub and_joins : (d : Tree (line g.neg ▸ many (word k.And ▸ line g.neg))) (found : List Cond) (all : Cond) → conjuncts d ≡ found → ((first : Cond) (more : List Cond) → found ≡ first ∷ more → all ≡ joined_conditions c.And first more) → conj_of (By d) ≡ all
and_joins (Both first more) found all same h = sym (h (neg_of first) (negs_of more) (sym same))
