use Rattle.std.proofs.Common.{◌≡◌, refl, sym, ap, ◌∙◌, List, Option}
use Rattle.std.proofs.lemmas.Result.{err_from_is_err_and}
use Rattle.sql_grammar.specs.declared.kinds.Kind.TheVariants as k
use Rattle.sql_grammar.specs.Grammar.{Part, Tree, word, many, opt, line, Both, By, ◌▸◌, ◌∣◌}
use Rattle.sql_grammar.specs.Grammar as g
use Rattle.sql_grammar.specs.declared.tree.Cond.{Cond}
use Rattle.sql_grammar.specs.declared.tree.Items.{Items}
use Rattle.sql_grammar.specs.declared.tree.Source.{Source}
use Rattle.sql_grammar.specs.Meaning.{select_of, whole_select, items_of, source_list_of, filter_of}
use Rattle.sql_grammar.proofs.Same.{regrouped, ungroup}
use Rattle.sql_grammar.proofs.Leads.{at_line, at_same, behind, done, fails, fails_first, read_ok, read_err}
use Rattle.sql_text.proofs.sources.select.Goals as goal

abbrev more_sources : Part
more_sources = many (word k.Comma ▸ line g.source)

abbrev filter_part : Part
filter_part = opt (word k.Where ▸ line g.cond)

-- the syntax tree by its parts
select_is : (a : Tree (word k.Select)) (b : Tree (line g.items)) (f : Tree (word k.From)) (s : Tree (line g.source ▸ more_sources)) (w : Tree filter_part)
    → select_of (By (Both a (Both b (Both f (ungroup (Both s w)))))) ≡ whole_select (items_of b) (source_list_of s) (filter_of w)
select_is a b f (Both first more) w = refl

pub returns-in_err-rest : goal.returns-in_err-rest
returns-in_err-rest c =
    let p = err_from_is_err_and c.from_residual.result c.from_residual.ensures.1 in
    let l0 = at_line g.select in
    rw (p.1, p.2) (fails_first l0 refl c.args.end c.in_err-rest.field-0.0 (c.in_err-rest.ensures c.args.levels))

pub returns-in_err-items : goal.returns-in_err-items
returns-in_err-items c =
    let p = err_from_is_err_and c.from_residual-in_err-items.result c.from_residual-in_err-items.ensures.1 in
    let l0 = at_line g.select in
    let keyword = c.in_ok-rest.ensures c.args.levels in
    let l1 = behind l0 refl keyword.reads in
    rw (p.1, p.2) (fails_first l1 refl c.args.end c.in_err-items.field-0.0 (c.in_err-items.ensures c.args.levels))

pub returns-in_err-items-2 : goal.returns-in_err-items-2
returns-in_err-items-2 c =
    let p = err_from_is_err_and c.from_residual-in_err-items-2.result c.from_residual-in_err-items-2.ensures.1 in
    let keyword = c.in_ok-rest.ensures c.args.levels in
    let items = c.in_ok-items.ensures c.args.levels in
    let l2 = behind (behind (at_line g.select) refl keyword.reads) refl items.reads in
    rw (p.1, p.2) (fails_first l2 refl c.args.end c.in_err-items-2.field-0.0 (c.in_err-items-2.ensures c.args.levels))

pub returns-in_err-found : goal.returns-in_err-found
returns-in_err-found c =
    let p = err_from_is_err_and c.from_residual-in_err-found.result c.from_residual-in_err-found.ensures.1 in
    let keyword = c.in_ok-rest.ensures c.args.levels in
    let items = c.in_ok-items.ensures c.args.levels in
    let from_word = c.in_ok-items-2.ensures c.args.levels in
    let l2 = behind (behind (at_line g.select) refl keyword.reads) refl items.reads in
    let l3 = at_same (behind l2 refl from_word.reads) (regrouped {a = line g.source} {b = more_sources} {c = filter_part}) refl in
    rw (p.1, p.2) (fails_first l3 refl c.args.end c.in_err-found.field-0.0 (read_err source_list_of (λ r. r.0) (λ r. r.1.now) _ _ c.args.end c.in_err-found.ensures c.sources.ensures))

pub returns-in_err-items-3 : goal.returns-in_err-items-3
returns-in_err-items-3 c =
    let p = err_from_is_err_and c.from_residual-in_err-items-3.result c.from_residual-in_err-items-3.ensures.1 in
    let keyword = c.in_ok-rest.ensures c.args.levels in
    let items = c.in_ok-items.ensures c.args.levels in
    let from_word = c.in_ok-items-2.ensures c.args.levels in
    let sources = read_ok source_list_of (λ r. r.0) (λ r. r.1.now) c.args.end c.in_ok-found.ensures.0 c.sources.ensures in
    let l2 = behind (behind (at_line g.select) refl keyword.reads) refl items.reads in
    let l3 = at_same (behind l2 refl from_word.reads) (regrouped {a = line g.source} {b = more_sources} {c = filter_part}) refl in
    rw (p.1, p.2) (fails (behind l3 refl sources.reads) c.args.end c.in_err-items-3.field-0.0 (read_err filter_of (λ r. r.0) (λ r. r.1.now) _ _ c.args.end c.in_err-items-3.ensures c.filter.ensures))

pub returns : goal.returns
returns c =
    let keyword = c.in_ok-rest.ensures c.args.levels in
    let items = c.in_ok-items.ensures c.args.levels in
    let from_word = c.in_ok-items-2.ensures c.args.levels in
    let sources = read_ok source_list_of (λ r. r.0) (λ r. r.1.now) c.args.end c.in_ok-found.ensures.0 c.sources.ensures in
    let filter = read_ok filter_of (λ r. r.0) (λ r. r.1.now) c.args.end c.in_ok-items-3.ensures.0 c.filter.ensures in
    let l2 = behind (behind (at_line g.select) refl keyword.reads) refl items.reads in
    let l3 = at_same (behind l2 refl from_word.reads) (regrouped {a = line g.source} {b = more_sources} {c = filter_part}) refl in
    done (behind l3 refl sources.reads) filter.tree filter.reads (select_is keyword.tree items.tree from_word.tree sources.tree filter.tree
    ∙ ap (λ (x : Items). whole_select x (source_list_of sources.tree) (filter_of filter.tree)) (items.value ∙ from_word.value ∙ sym c.in_ok-found.ensures.1)
    ∙ ap (λ (x : List Source). whole_select c.in_ok-found.found.0 x (filter_of filter.tree)) sources.value
    ∙ ap (λ (x : Items × List Source). whole_select x.0 x.1 (filter_of filter.tree)) (sym c.in_ok-items-3.ensures.1)
    ∙ ap (λ (x : Option Cond). whole_select c.in_ok-items-3.items c.in_ok-items-3.sources x) filter.value)
