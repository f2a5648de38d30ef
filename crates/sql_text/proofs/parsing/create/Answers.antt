use Rattle.std.proofs.Common.{◌≡◌, refl, sym, ap, ◌∙◌, List}
use Rattle.std.proofs.lemmas.Result.{err_from_is_err_and}
use Rattle.sql_grammar.specs.declared.kinds.Kind.TheVariants as k
use Rattle.sql_grammar.specs.Grammar.{Part, Tree, word, many, line, name, Both, By, ◌▸◌, ◌∣◌}
use Rattle.sql_grammar.specs.Grammar as g
use Rattle.sql_grammar.specs.declared.tree.Alias.{Alias}
use Rattle.sql_grammar.specs.declared.tree.ColumnItem.{ColumnItem}
use Rattle.sql_grammar.specs.Meaning.{create_of, created_table, placed_name, column_list_of}
use Rattle.sql_grammar.proofs.Same.{regrouped, ungroup}
use Rattle.sql_grammar.proofs.Leads.{at_line, at_same, behind, done, fails, fails_first, read_ok, read_err}
use Rattle.sql_text.proofs.parsing.create.Goals as goal

abbrev more_columns : Part
more_columns = many (word k.Comma ▸ line g.column)

-- the syntax tree by its parts
create_is : (a : Tree (word k.Create)) (b : Tree (word k.Table)) (n : Tree name) (l : Tree (word k.LeftParen)) (cs : Tree (line g.column ▸ more_columns)) (r : Tree (word k.RightParen)) (s : Tree (word k.Semicolon))
    → create_of (By (Both a (Both b (Both n (Both l (ungroup (Both cs (Both r s)))))))) ≡ created_table (placed_name n) (column_list_of cs)
create_is a b n l (Both first more) r s = refl

pub returns-in_err-rest : goal.returns-in_err-rest
returns-in_err-rest c n =
    let p = err_from_is_err_and c.from_residual.result c.from_residual.ensures.1 in
    let l0 = at_line g.create in
    rw (p.1, p.2) (fails_first l0 refl c.args.end c.in_err-rest.field-0.0 (c.in_err-rest.ensures n))

pub returns-in_err-rest-2 : goal.returns-in_err-rest-2
returns-in_err-rest-2 c n =
    let p = err_from_is_err_and c.from_residual-in_err-rest-2.result c.from_residual-in_err-rest-2.ensures.1 in
    let l0 = at_line g.create in
    let create = c.in_ok-rest.ensures n in
    let l1 = behind l0 refl create.reads in
    rw (p.1, p.2) (fails_first l1 refl c.args.end c.in_err-rest-2.field-0.0 (c.in_err-rest-2.ensures n))

pub returns-in_err-table : goal.returns-in_err-table
returns-in_err-table c n =
    let p = err_from_is_err_and c.from_residual-in_err-table.result c.from_residual-in_err-table.ensures.1 in
    let l0 = at_line g.create in
    let create = c.in_ok-rest.ensures n in
    let l1 = behind l0 refl create.reads in
    let table_word = c.in_ok-rest-2.ensures n in
    let l2 = behind l1 refl table_word.reads in
    rw (p.1, p.2) (fails_first l2 refl c.args.end c.in_err-table.field-0.0 (c.in_err-table.ensures n))

pub returns-in_err-table-2 : goal.returns-in_err-table-2
returns-in_err-table-2 c n =
    let p = err_from_is_err_and c.from_residual-in_err-table-2.result c.from_residual-in_err-table-2.ensures.1 in
    let l0 = at_line g.create in
    let create = c.in_ok-rest.ensures n in
    let l1 = behind l0 refl create.reads in
    let table_word = c.in_ok-rest-2.ensures n in
    let l2 = behind l1 refl table_word.reads in
    let table = c.in_ok-table.ensures n in
    let l3 = behind l2 refl table.reads in
    rw (p.1, p.2) (fails_first l3 refl c.args.end c.in_err-table-2.field-0.0 (c.in_err-table-2.ensures n))

pub returns-in_err-found : goal.returns-in_err-found
returns-in_err-found c n =
    let p = err_from_is_err_and c.from_residual-in_err-found.result c.from_residual-in_err-found.ensures.1 in
    let l0 = at_line g.create in
    let create = c.in_ok-rest.ensures n in
    let l1 = behind l0 refl create.reads in
    let table_word = c.in_ok-rest-2.ensures n in
    let l2 = behind l1 refl table_word.reads in
    let table = c.in_ok-table.ensures n in
    let l3 = behind l2 refl table.reads in
    let left = c.in_ok-table-2.ensures n in
    let l4 = at_same (behind l3 refl left.reads) (regrouped {a = line g.column} {b = more_columns} {c = word k.RightParen ▸ word k.Semicolon}) refl in
    rw (p.1, p.2) (fails_first l4 refl c.args.end c.in_err-found.field-0.0 (read_err column_list_of (λ r. r.0) (λ r. r.1.now) _ _ c.args.end c.in_err-found.ensures (c.columns.ensures n)))

pub returns-in_err-found-2 : goal.returns-in_err-found-2
returns-in_err-found-2 c n =
    let p = err_from_is_err_and c.from_residual-in_err-found-2.result c.from_residual-in_err-found-2.ensures.1 in
    let l0 = at_line g.create in
    let create = c.in_ok-rest.ensures n in
    let l1 = behind l0 refl create.reads in
    let table_word = c.in_ok-rest-2.ensures n in
    let l2 = behind l1 refl table_word.reads in
    let table = c.in_ok-table.ensures n in
    let l3 = behind l2 refl table.reads in
    let left = c.in_ok-table-2.ensures n in
    let l4 = at_same (behind l3 refl left.reads) (regrouped {a = line g.column} {b = more_columns} {c = word k.RightParen ▸ word k.Semicolon}) refl in
    let columns = read_ok column_list_of (λ r. r.0) (λ r. r.1.now) c.args.end c.in_ok-found.ensures.0 (c.columns.ensures n) in
    let l5 = behind l4 refl columns.reads in
    rw (p.1, p.2) (fails_first l5 refl c.args.end c.in_err-found-2.field-0.0 (c.in_err-found-2.ensures n))

pub returns-in_err-table-3 : goal.returns-in_err-table-3
returns-in_err-table-3 c n =
    let p = err_from_is_err_and c.from_residual-in_err-table-3.result c.from_residual-in_err-table-3.ensures.1 in
    let l0 = at_line g.create in
    let create = c.in_ok-rest.ensures n in
    let l1 = behind l0 refl create.reads in
    let table_word = c.in_ok-rest-2.ensures n in
    let l2 = behind l1 refl table_word.reads in
    let table = c.in_ok-table.ensures n in
    let l3 = behind l2 refl table.reads in
    let left = c.in_ok-table-2.ensures n in
    let l4 = at_same (behind l3 refl left.reads) (regrouped {a = line g.column} {b = more_columns} {c = word k.RightParen ▸ word k.Semicolon}) refl in
    let columns = read_ok column_list_of (λ r. r.0) (λ r. r.1.now) c.args.end c.in_ok-found.ensures.0 (c.columns.ensures n) in
    let l5 = behind l4 refl columns.reads in
    let right = c.in_ok-found-2.ensures n in
    let l6 = behind l5 refl right.reads in
    rw (p.1, p.2) (fails l6 c.args.end c.in_err-table-3.field-0.0 (c.in_err-table-3.ensures n))

pub returns : goal.returns
returns c n =
    let l0 = at_line g.create in
    let create = c.in_ok-rest.ensures n in
    let l1 = behind l0 refl create.reads in
    let table_word = c.in_ok-rest-2.ensures n in
    let l2 = behind l1 refl table_word.reads in
    let table = c.in_ok-table.ensures n in
    let l3 = behind l2 refl table.reads in
    let left = c.in_ok-table-2.ensures n in
    let l4 = at_same (behind l3 refl left.reads) (regrouped {a = line g.column} {b = more_columns} {c = word k.RightParen ▸ word k.Semicolon}) refl in
    let columns = read_ok column_list_of (λ r. r.0) (λ r. r.1.now) c.args.end c.in_ok-found.ensures.0 (c.columns.ensures n) in
    let l5 = behind l4 refl columns.reads in
    let right = c.in_ok-found-2.ensures n in
    let l6 = behind l5 refl right.reads in
    let semicolon = c.in_ok-table-3.ensures n in
    done l6 semicolon.tree semicolon.reads (create_is create.tree table_word.tree table.tree left.tree columns.tree right.tree semicolon.tree
    ∙ ap (λ (x : Alias). created_table x (column_list_of columns.tree)) (table.value ∙ left.value ∙ sym c.in_ok-found.ensures.1)
    ∙ ap (λ (xs : List ColumnItem). created_table c.in_ok-found.found.0 xs) columns.value
    ∙ ap (λ (x : Alias × List ColumnItem). created_table x.0 x.1) (right.value ∙ semicolon.value))
