-- The reports of a bound query, line by line.
use Rattle.std.specs.Prelude.{ℕ, ◌-◌, List, [], ◌∷◌, ◌++◌, Option, None, Some, All, IfSome}
use Rattle.std.specs.Prelude.{codes, length, slice_index, slice_index_or}
use Rattle.std.specs.Fmt.{decimal}
use Rattle.std.specs.List.{enumerate_from, flat_map, range_with_len}
use Rattle.rpt_base.specs.declared.filters.FilterKind.{FilterKind}
use Rattle.rpt_base.specs.declared.filters.FilterKind.TheVariants as filter_kind
use Rattle.rpt_base.specs.declared.values.ColumnType.TheVariants as kind
use Rattle.column_table.specs.declared.declared.ColumnDecl.{ColumnDecl}
use Rattle.column_table.specs.declared.declared.Decl.{Decl}
use Rattle.column_classes.specs.declared.columns.ColumnRef.{ColumnRef}
use Rattle.column_classes.specs.Variables.{QueryVariables}
use Rattle.bound_query.specs.Query.{Query}
use Rattle.join_graph.specs.declared.tree.Link.{Link}
use Rattle.join_graph.specs.declared.tree.Tree.{Tree}
use Rattle.join_graph.specs.JoinList.{HasParents}
use Rattle.join_graph.specs.Weights.{needed_of, total, weight_of}

-- What a run tells: the kind of its filters; of each relation how many rows there are, how many of these are selected and how many the
-- filters leave; and how many tuples each prefix of the order has.
pub record RunCounts : Type 0 where
  pub filter : FilterKind
  pub rows : List ℕ
  pub selected : List ℕ
  pub reduced : List ℕ
  pub prefixes : List ℕ

abbrev pub line_end : List ℕ
line_end = 10 ∷ []

-- the name that a relation goes by
abbrev pub alias_of : Query → ℕ → List ℕ
alias_of q r = slice_index_or q.aliases r []

-- the table of a relation
abbrev pub declaration_at : Query → ℕ → Decl
declaration_at q r =
    slice_index_or q.tables (slice_index q.table_of r) (record { name = []; columns = [] })

-- a column
abbrev pub column_at : Query → ColumnRef → ColumnDecl
column_at q c =
    slice_index_or (declaration_at q c.relation).columns c.column (record { name = []; kind = kind.Int })

-- how many relations there are
abbrev pub count_line : Query → List ℕ
count_line q = codes "relations " ++ decimal (length q.table_of) ++ line_end

-- of a run, how many rows a relation has, how many are selected and how many reduced
abbrev pub rows_text : Option RunCounts → ℕ → List ℕ
rows_text None r = []
rows_text (Some run) r =
    codes " rows " ++ decimal (slice_index run.rows r)
    ++ codes " selected " ++ decimal (slice_index run.selected r)
    ++ codes " reduced " ++ decimal (slice_index run.reduced r)

-- a relation's name and that of its table, and of a run its rows
abbrev pub relation_line : Query → Option RunCounts → ℕ → List ℕ
relation_line q run r =
    codes "relation " ++ alias_of q r ++ codes " " ++ (declaration_at q r).name ++ rows_text run r ++ line_end

-- a column, behind a space
abbrev pub column_text : Query → ColumnRef → List ℕ
column_text q c = codes " " ++ alias_of q c.relation ++ codes "." ++ (column_at q c).name

-- the columns of a variable
abbrev pub variable_line : Query → List ColumnRef → List ℕ
variable_line q columns = codes "variable" ++ flat_map (column_text q) columns ++ line_end

-- what the tree weighs, and what a join list weighs
abbrev pub weight_line : List (List ℕ) → Tree → List ℕ
weight_line sets tree =
    codes "weight " ++ decimal (total (weight_of sets) tree.links)
    ++ codes " of " ++ decimal (needed_of sets) ++ line_end

-- a child and its parent, behind a space
abbrev pub link_text : Query → Link → List ℕ
link_text q l = codes " " ++ alias_of q l.child ++ codes ">" ++ alias_of q l.parent

-- the root, and then each link
abbrev pub list_text : Query → Tree → List ℕ
list_text q tree = alias_of q tree.root ++ flat_map (link_text q) tree.links

-- the tree
abbrev pub tree_line : Query → Tree → List ℕ
tree_line q tree = codes "tree " ++ list_text q tree ++ line_end

-- a relation's name, behind a space
abbrev pub next_text : Query → ℕ → List ℕ
next_text q r = codes " " ++ alias_of q r

-- the relations in the order in which they are joined
abbrev pub order_line : Query → List ℕ → List ℕ
order_line q order = codes "order" ++ flat_map (next_text q) order ++ line_end

-- the prefix of so many relations is safe, and some join list that begins with it
abbrev pub safe_line : Query → ℕ → Tree → List ℕ
safe_line q k list = codes "safe " ++ decimal k ++ codes " " ++ list_text q list ++ line_end

-- the prefix of so many relations isn't safe
abbrev pub unsafe_line : ℕ → List ℕ
unsafe_line k = codes "unsafe " ++ decimal k ++ line_end

-- what is told of the prefix of so many relations
abbrev pub prefix_line : Query → ℕ × Option Tree → List ℕ
prefix_line q (k, None) = unsafe_line k
prefix_line q (k, Some list) = safe_line q k list

-- a line for each relation
abbrev pub relation_lines : Query → Option RunCounts → List ℕ
relation_lines q run = flat_map (relation_line q run) (range_with_len 0 (length q.table_of))

-- a line for each variable
abbrev pub variable_lines : Query → List (List ColumnRef) → List ℕ
variable_lines q variables = flat_map (variable_line q) variables

-- a line for each prefix, from that of one relation on
abbrev pub prefix_lines : Query → List (Option Tree) → List ℕ
prefix_lines q lists = flat_map (prefix_line q) (enumerate_from 1 lists)

-- the word of a kind of filters
abbrev pub kind_text : FilterKind → List ℕ
kind_text filter_kind.Bloom = codes "bloom"
kind_text filter_kind.Exact = codes "exact"
kind_text filter_kind.Off = codes "none"

abbrev pub kind_line : FilterKind → List ℕ
kind_line filter = codes "filter " ++ kind_text filter ++ line_end

-- which filters a run has
abbrev pub filter_line : Option RunCounts → List ℕ
filter_line None = []
filter_line (Some run) = kind_line run.filter

-- how many tuples the prefix of so many relations has
abbrev pub tuples_line : ℕ × ℕ → List ℕ
tuples_line (k, count) = codes "prefix " ++ decimal k ++ codes " rows " ++ decimal count ++ line_end

-- a line for each prefix, from that of one relation on
abbrev pub prefix_counts_lines : List ℕ → List ℕ
prefix_counts_lines counts = flat_map tuples_line (enumerate_from 1 counts)

-- how many rows the answer has
abbrev pub answer_line : ℕ → List ℕ
answer_line count = codes "answer rows " ++ decimal count ++ line_end

-- how many each prefix has, and then the answer, whose rows are the last one's
abbrev pub counts_lines : List ℕ → List ℕ
counts_lines counts = prefix_counts_lines counts ++ answer_line (slice_index counts (length counts - 1))

-- how many a run's prefixes have
abbrev pub tuples_lines : Option RunCounts → List ℕ
tuples_lines None = []
tuples_lines (Some run) = counts_lines run.prefixes

-- the report, of a run or of none
abbrev pub report_of : Query → QueryVariables → Tree → List ℕ → List (Option Tree) → Option RunCounts → List ℕ
report_of q known tree order lists run =
    count_line q
    ++ relation_lines q run
    ++ variable_lines q known.variables
    ++ weight_line known.sets tree
    ++ tree_line q tree
    ++ filter_line run
    ++ order_line q order
    ++ prefix_lines q lists
    ++ tuples_lines run

-- each list that is given is a list with parents of n relations
abbrev pub AreLists : ℕ → List (Option Tree) → Type 0
AreLists n lists = All (λ list. IfSome list (λ (t : Tree). HasParents n t.root t.links)) lists
