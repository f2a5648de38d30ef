-- A printed script is read back to the same script.
use Rattle.std.proofs.Common.{◌≡◌, ◌∙◌, ap, sym, refl, subst, ℕ, ◌≤◌, List, [], ◌∷◌, ◌++◌, length, true, arith, map, Option, Some, None, codes}
use Rattle.rpt_base.specs.declared.values.ColumnType.{ColumnType}
use Rattle.rpt_base.specs.declared.values.ColumnType.TheVariants as column_type
use Rattle.rpt_base.specs.declared.limits.TheConstants.{MAX_LEVELS}
use Rattle.sql_lex.specs.declared.tokens.Token.{Token}
use Rattle.sql_lex.specs.declared.tokens.Mark.TheVariants as marks
use Rattle.sql_grammar.specs.declared.kinds.Kind.{Kind}
use Rattle.sql_grammar.specs.declared.kinds.Kind.TheVariants as k
use Rattle.sql_grammar.specs.Kinds.{kind_of, among}
use Rattle.sql_grammar.specs.declared.tree.Alias.{Alias}
use Rattle.sql_grammar.specs.declared.tree.ColumnItem.{ColumnItem}
use Rattle.sql_grammar.specs.declared.tree.ColumnName.{ColumnName}
use Rattle.sql_grammar.specs.declared.tree.Cond.{Cond}
use Rattle.sql_grammar.specs.declared.tree.CreateTable.{CreateTable}
use Rattle.sql_grammar.specs.declared.tree.Item.{Item}
use Rattle.sql_grammar.specs.declared.tree.Items.{Items}
use Rattle.sql_grammar.specs.declared.tree.Items.TheVariants as i
use Rattle.sql_grammar.specs.declared.tree.Script.{Script}
use Rattle.sql_grammar.specs.declared.tree.Select.{Select}
use Rattle.sql_grammar.specs.declared.tree.Source.{Source}
use Rattle.sql_grammar.specs.Formed.{is_cond, IsFilter, AreSources, IsFrom, AreItems, HaveColumns, IsWellFormed}
use Rattle.sql_grammar.specs.Sentence.{IsSentence}
use Rattle.sql_grammar.specs.Grammar as g
use Rattle.sql_grammar.specs.Grammar.{Part, token, word, name, types, ◌▸◌, ◌∣◌, many, line, opt, Tree, text, depth, Leaf, Both, Right, End, More, By}
use Rattle.sql_grammar.specs.Meaning.{placed_name, alias_of, title_of, colref_of, item_of, more_items_of, items_of, factor_of, join, join_of, joins_of, source_of, more_sources_of, filter_of, cond_of, whole_select, select_of, type_by, type_of, column_of, more_columns_of, create_of, creates_of, whole_script, script_of}
use Rattle.sql_print.specs.declared.conditions.Room.TheVariants as room
use Rattle.sql_print.specs.Pieces as piece
use Rattle.sql_print.specs.Pieces.{Piece, ArePieces}
use Rattle.sql_print.specs.Writes.{token_of, Writes}
use Rattle.sql_print.specs.Printed.{column_pieces, behind_each, between_all, cond_pieces, cond_levels, title_pieces, item_pieces, items_pieces, alias_pieces, factor_pieces, next_source, next_sources, sources_pieces, filter_pieces, select_pieces, type_word, declared_pieces, table_pieces, tables_pieces, script_pieces, filter_levels, sources_levels, script_levels}
use Rattle.sql_print.specs.Unplaced.{unplaced_column, unplaced_cond, unplaced_filter, unplaced_name, unplaced_source, unplaced_item, unplaced_items, unplaced_select, unplaced_declared, unplaced_table, unplaced}
use Rattle.sql_print.proofs.Derives.{Derives, both, as_left, as_right, as_line, absent, no_more, one_more, a_token, derives_good, Pair, Behind, pair, behind}
use Rattle.sql_print.proofs.Operands.{Any, a_word, a_mark, word_kind, mark_kind, a_name, a_colref}
use Rattle.sql_print.proofs.Nested.{IsC, rereads}

-- ---- items

abbrev renamed : Part
renamed = opt (word k.As) ▸ name

abbrev IsNamed : List ℕ → Tree renamed → Type 0
IsNamed n (Both keyword d) = (placed_name d).name ≡ n

a_renaming : (n : List ℕ) (m : ℕ) → Derives renamed (IsNamed n) m (λ more. piece.word (codes "AS") ∷ piece.name n ∷ more)
a_renaming n m =
    both (IsNamed n) (λ more. piece.word (codes "AS") ∷ more) (λ more. piece.name n ∷ more)
    (as_right Any (λ more. piece.word (codes "AS") ∷ more) (a_word (codes "AS") k.As m refl) (λ a h. tt)) (a_name n m) (λ a b h i. i)

some_title : (n : List ℕ) (d : Tree renamed) → IsNamed n d → title_of (alias_of (Right d)) ≡ Some n
some_title n (Both keyword d) h = ap (λ (x : List ℕ). Some x) h

a_title : (title : Option (List ℕ)) (m : ℕ) → Derives (opt renamed) (λ d. title_of (alias_of d) ≡ title) m (title_pieces title)
a_title None m = as_left (λ d. title_of (alias_of d) ≡ None) (λ more. more) (absent Any m tt) (λ a h. refl)
a_title (Some n) m = as_right (λ d. title_of (alias_of d) ≡ Some n) (λ more. piece.word (codes "AS") ∷ piece.name n ∷ more) (a_renaming n m) (some_title n)

abbrev IsItem : Item → Tree (line g.item) → Type 0
IsItem item d = unplaced_item (item_of d) ≡ unplaced_item item

abbrev made_item : ColumnName → Option (List ℕ) → Item
made_item column title = record { column = column; title = title }

an_item : (item : Item) (m : ℕ) → Derives (line g.item) (IsItem item) m (item_pieces item)
an_item item m =
    as_line g.item (IsItem item) (item_pieces item)
    (both (λ d. IsItem item (By d)) (column_pieces item.column) (title_pieces item.title) (a_colref item.column m) (a_title item.title m) good) (λ a h. h)
  where
    good : (a : Tree (line g.colref)) (b : Tree (opt renamed)) → unplaced_column (colref_of a) ≡ unplaced_column item.column → title_of (alias_of b) ≡ item.title → IsItem item (By (Both a b))
    good a b h i = ap (λ (x : ColumnName). made_item x (title_of (alias_of b))) h ∙ ap (λ (x : Option (List ℕ)). made_item (unplaced_column item.column) x) i

abbrev NextItem : Item → Tree (word k.Comma ▸ line g.item) → Type 0
NextItem item (Both comma d) = IsItem item d

one_item : (item : Item) (items : List Item) (a : Tree (word k.Comma ▸ line g.item)) (b : Tree (many (word k.Comma ▸ line g.item)))
    → NextItem item a → map unplaced_item (more_items_of b) ≡ map unplaced_item items → map unplaced_item (more_items_of (More a b)) ≡ map unplaced_item (item ∷ items)
one_item item items (Both comma d) b h i = ap (λ (x : Item). x ∷ map unplaced_item (more_items_of b)) h ∙ ap (λ (xs : List Item). unplaced_item item ∷ xs) i

more_items : (items : List Item) (m : ℕ) → Derives (many (word k.Comma ▸ line g.item)) (λ d. map unplaced_item (more_items_of d) ≡ map unplaced_item items) m (behind_each (piece.mark marks.Comma) item_pieces items)
more_items [] m = no_more (word k.Comma ▸ line g.item) (λ d. map unplaced_item (more_items_of d) ≡ []) m refl
more_items (item ∷ items) m =
    one_more (λ d. map unplaced_item (more_items_of d) ≡ map unplaced_item (item ∷ items)) (λ more. piece.mark marks.Comma ∷ item_pieces item more) (behind_each (piece.mark marks.Comma) item_pieces items)
    (both (NextItem item) (λ more. piece.mark marks.Comma ∷ more) (item_pieces item) (a_mark marks.Comma k.Comma m refl) (an_item item m) (λ a b h i. i)) (more_items items m) (one_item item items)

abbrev listed : List Item → Items
listed items = i.List items

the_items : (items : Items) (m : ℕ) → AreItems items → Derives (line g.items) (λ d. unplaced_items (items_of d) ≡ unplaced_items items) m (items_pieces items)
the_items i.Star m h =
    as_line g.items (λ d. unplaced_items (items_of d) ≡ i.Star) (λ more. piece.mark marks.Star ∷ more)
    (as_left (λ d. unplaced_items (items_of (By d)) ≡ i.Star) (λ more. piece.mark marks.Star ∷ more) (a_mark marks.Star k.Star m refl) (λ a h. refl)) (λ a h. h)
the_items (i.List []) m h = absurd (omega arith)
the_items (i.List (item ∷ items)) m h =
    as_line g.items (λ d. unplaced_items (items_of d) ≡ unplaced_items (i.List (item ∷ items))) (between_all (piece.mark marks.Comma) item_pieces (item ∷ items))
    (as_right (λ d. unplaced_items (items_of (By d)) ≡ unplaced_items (i.List (item ∷ items))) (between_all (piece.mark marks.Comma) item_pieces (item ∷ items))
    (both (λ d. unplaced_items (items_of (By (Right d))) ≡ unplaced_items (i.List (item ∷ items))) (item_pieces item) (behind_each (piece.mark marks.Comma) item_pieces items) (an_item item m) (more_items items m) good)
    (λ a h. h)) (λ a h. h)
  where
    good : (a : Tree (line g.item)) (b : Tree (many (word k.Comma ▸ line g.item))) → IsItem item a → map unplaced_item (more_items_of b) ≡ map unplaced_item items
        → unplaced_items (items_of (By (Right (Both a b)))) ≡ unplaced_items (i.List (item ∷ items))
    good a b h j = ap (λ (x : Item). listed (x ∷ map unplaced_item (more_items_of b))) h ∙ ap (λ (xs : List Item). listed (unplaced_item item ∷ xs)) j

-- ---- sources

abbrev made_alias : List ℕ → Option Alias
made_alias n = Some (record { at = 0; name = n })

some_alias : (n : List ℕ) (d : Tree renamed) → IsNamed n d → unplaced_name (alias_of (Right d)) ≡ made_alias n
some_alias n (Both keyword d) h = ap made_alias h

an_alias : (alias : Option Alias) (m : ℕ) → Derives (opt renamed) (λ d. unplaced_name (alias_of d) ≡ unplaced_name alias) m (alias_pieces alias)
an_alias None m = as_left (λ d. unplaced_name (alias_of d) ≡ None) (λ more. more) (absent Any m tt) (λ a h. refl)
an_alias (Some alias) m =
    as_right (λ d. unplaced_name (alias_of d) ≡ made_alias alias.name) (λ more. piece.word (codes "AS") ∷ piece.name alias.name ∷ more) (a_renaming alias.name m) (some_alias alias.name)

abbrev made_source : List ℕ → Option Alias → Option Cond → Source
made_source table alias on = record { at = 0; table = table; alias = alias; on = on }

-- with this condition
abbrev IsFactor : Source → Tree (line g.factor) → Type 0
IsFactor source d = unplaced_source (factor_of d) ≡ made_source source.table (unplaced_name source.alias) None

a_factor : (source : Source) (m : ℕ) → Derives (line g.factor) (IsFactor source) m (factor_pieces source)
a_factor source m =
    as_line g.factor (IsFactor source) (factor_pieces source)
    (both (λ d. IsFactor source (By d)) (λ more. piece.name source.table ∷ more) (alias_pieces source.alias) (a_name source.table m) (an_alias source.alias m) good) (λ a h. h)
  where
    good : (a : Tree name) (b : Tree (opt renamed)) → (placed_name a).name ≡ source.table → unplaced_name (alias_of b) ≡ unplaced_name source.alias → IsFactor source (By (Both a b))
    good a b h j = ap (λ (x : List ℕ). made_source x (unplaced_name (alias_of b)) None) h ∙ ap (λ (x : Option Alias). made_source source.table x None) j

-- a source's table and alias, with this condition
abbrev with : Source → Option Cond → Source
with source on = record { at = 0; table = source.table; alias = source.alias; on = on }

a_condition : (x : Cond) (m : ℕ) → is_cond x ≡ true → cond_levels x room.Whole ≤ m → Derives (line g.cond) (IsC x) m (cond_pieces x room.Whole)
a_condition x m formed le = (rereads x formed m).whole le

join_pieces : Source → Cond → List Piece → List Piece
join_pieces source on more = piece.word (codes "JOIN") ∷ factor_pieces source (piece.word (codes "ON") ∷ cond_pieces on room.Whole more)

abbrev IsJoin : Source → Cond → Tree join → Type 0
IsJoin source on d = unplaced_source (join_of d) ≡ made_source source.table (unplaced_name source.alias) (Some (unplaced_cond on))

joined_good : (source : Source) (on : Cond) (d : Tree join) → Behind (Behind (Pair (IsFactor source) (Behind (IsC on)))) d → IsJoin source on d
joined_good source on (Both inner (Both keyword (Both table (Both on_word condition)))) h =
    ap (λ (x : Source). with x (Some (unplaced_cond (cond_of condition)))) h.0 ∙ ap (λ (x : Cond). made_source source.table (unplaced_name source.alias) (Some x)) h.1

a_join : (source : Source) (on : Cond) (m : ℕ) → is_cond on ≡ true → cond_levels on room.Whole ≤ m → Derives join (IsJoin source on) m (join_pieces source on)
unfolding join_pieces
a_join source on m formed le =
    derives_good (join_pieces source on) (joined_good source on)
    (behind (λ more. more) (join_pieces source on) (as_left Any (λ more. more) (absent Any m tt) (λ a h. tt))
    (behind (λ more. piece.word (codes "JOIN") ∷ more) (λ more. factor_pieces source (piece.word (codes "ON") ∷ cond_pieces on room.Whole more)) (a_word (codes "JOIN") k.Join m refl)
    (pair (factor_pieces source) (λ more. piece.word (codes "ON") ∷ cond_pieces on room.Whole more) (a_factor source m)
    (behind (λ more. piece.word (codes "ON") ∷ more) (cond_pieces on room.Whole) (a_word (codes "ON") k.On m refl) (a_condition on m formed le)))))

-- joined sources, and then others behind commas
abbrev following : Part
following = many join ▸ many (word k.Comma ▸ line g.source)

abbrev Follow : List Source → Tree following → Type 0
Follow sources (Both joins more) = map unplaced_source (joins_of joins ++ more_sources_of more) ≡ map unplaced_source sources

-- one more joined source in front
abbrev join_first : Tree join → Tree following → Tree following
join_first a (Both joins more) = Both (More a joins) more

-- one more source behind a comma in front
abbrev comma_first : Tree (word k.Comma ▸ line g.factor) → Tree following → Tree following
comma_first (Both comma factor) (Both joins more) = Both End (More (Both comma (By (Both factor joins))) more)

join_text : (a : Tree join) (b : Tree following) (us : List Token) → text (join_first a b) us ≡ text a (text b us)
join_text a (Both joins more) us = refl

comma_text : (a : Tree (word k.Comma ▸ line g.factor)) (b : Tree following) (us : List Token) → text (comma_first a b) us ≡ text a (text b us)
comma_text (Both comma factor) (Both joins more) us = refl

join_depth : (a : Tree join) (b : Tree following) (m : ℕ) → depth a ≤ m → depth b ≤ m → depth (join_first a b) ≤ m
join_depth a (Both joins more) m h j = omega arith

comma_depth : (a : Tree (word k.Comma ▸ line g.factor)) (b : Tree following) (m : ℕ) → depth a ≤ m → depth b ≤ m → depth (comma_first a b) ≤ m
comma_depth (Both comma factor) (Both joins more) m h j = omega arith

join_follows : (source : Source) (on : Cond) (sources : List Source) (a : Tree join) (b : Tree following) → source.on ≡ Some on → IsJoin source on a → Follow sources b → Follow (source ∷ sources) (join_first a b)
join_follows source on sources a (Both joins more) e h j =
    ap (λ (x : Source). x ∷ map unplaced_source (joins_of joins ++ more_sources_of more)) h
    ∙ ap (λ (x : Option Cond). made_source source.table (unplaced_name source.alias) (unplaced_filter x) ∷ map unplaced_source (joins_of joins ++ more_sources_of more)) (sym e)
    ∙ ap (λ (xs : List Source). unplaced_source source ∷ xs) j

comma_follows : (source : Source) (sources : List Source) (a : Tree (word k.Comma ▸ line g.factor)) (b : Tree following) → source.on ≡ None → Behind (IsFactor source) a → Follow sources b → Follow (source ∷ sources) (comma_first a b)
comma_follows source sources (Both comma factor) (Both joins more) e h j =
    ap (λ (x : Source). x ∷ map unplaced_source (joins_of joins ++ more_sources_of more)) h
    ∙ ap (λ (x : Option Cond). made_source source.table (unplaced_name source.alias) (unplaced_filter x) ∷ map unplaced_source (joins_of joins ++ more_sources_of more)) (sym e)
    ∙ ap (λ (xs : List Source). unplaced_source source ∷ xs) j

follow_join : (source : Source) (on : Cond) (sources : List Source) (m : ℕ) → source.on ≡ Some on → Derives join (IsJoin source on) m (join_pieces source on)
    → Derives following (Follow sources) m (next_sources sources) → Derives following (Follow (source ∷ sources)) m (λ more. join_pieces source on (next_sources sources more))
follow_join source on sources m e d rest more ts holds writes =
    let a = d (next_sources sources more) ts holds writes in
    let b = rest more a.rest a.holds a.left in
    record {
      tree = join_first a.tree b.tree;
      rest = b.rest;
      spells = join_text a.tree b.tree b.rest ∙ ap (text a.tree) b.spells ∙ a.spells;
      left = b.left;
      holds = b.holds;
      good = join_follows source on sources a.tree b.tree e a.good b.good;
      within = join_depth a.tree b.tree m a.within b.within;
    }

follow_comma : (source : Source) (sources : List Source) (m : ℕ) → source.on ≡ None
    → Derives following (Follow sources) m (next_sources sources) → Derives following (Follow (source ∷ sources)) m (λ more. piece.mark marks.Comma ∷ factor_pieces source (next_sources sources more))
follow_comma source sources m e rest more ts holds writes =
    let a = behind (λ more. piece.mark marks.Comma ∷ more) (factor_pieces source) (a_mark marks.Comma k.Comma m refl) (a_factor source m) (next_sources sources more) ts holds writes in
    let b = rest more a.rest a.holds a.left in
    record {
      tree = comma_first a.tree b.tree;
      rest = b.rest;
      spells = comma_text a.tree b.tree b.rest ∙ ap (text a.tree) b.spells ∙ a.spells;
      left = b.left;
      holds = b.holds;
      good = comma_follows source sources a.tree b.tree e a.good b.good;
      within = comma_depth a.tree b.tree m a.within b.within;
    }

follow_one : (source : Source) (sources : List Source) (m : ℕ) (on : Option Cond) → source.on ≡ on → IsFilter on → filter_levels on ≤ m
    → Derives following (Follow sources) m (next_sources sources) → Derives following (Follow (source ∷ sources)) m (λ more. next_source on source (next_sources sources more))
unfolding join_pieces
follow_one source sources m None e formed le rest = follow_comma source sources m e rest
follow_one source sources m (Some on) e formed le rest = follow_join source on sources m e (a_join source on m formed le) rest

follow : (sources : List Source) (m : ℕ) → AreSources sources → sources_levels sources ≤ m → Derives following (Follow sources) m (next_sources sources)
follow [] m formed le =
    both (Follow []) (λ more. more) (λ more. more) (no_more join IsNone m tt) (no_more (word k.Comma ▸ line g.source) IsNone m tt) good
  where
    IsNone : {p : Part} → Tree (many p) → Type 0
    IsNone End = Unit {0}
    IsNone (More a b) = ⊥

    good : (a : Tree (many join)) (b : Tree (many (word k.Comma ▸ line g.source))) → IsNone a → IsNone b → Follow [] (Both a b)
    good End End h j = refl
    good End (More b d) h j = absurd j
    good (More a d) b h j = absurd h
follow (source ∷ sources) m formed le = follow_one source sources m source.on refl formed.0 (omega arith) (follow sources m formed.1 (omega arith))

-- all sources
abbrev from_part : Part
from_part = line g.source ▸ many (word k.Comma ▸ line g.source)

abbrev From : List Source → Tree from_part → Type 0
From sources (Both first more) = map unplaced_source (source_of first ++ more_sources_of more) ≡ map unplaced_source sources

abbrev factor_first : Tree (line g.factor) → Tree following → Tree from_part
factor_first factor (Both joins more) = Both (By (Both factor joins)) more

factor_text : (a : Tree (line g.factor)) (b : Tree following) (us : List Token) → text (factor_first a b) us ≡ text a (text b us)
factor_text a (Both joins more) us = refl

factor_depth : (a : Tree (line g.factor)) (b : Tree following) (m : ℕ) → depth a ≤ m → depth b ≤ m → depth (factor_first a b) ≤ m
factor_depth a (Both joins more) m h j = omega arith

factor_from : (source : Source) (sources : List Source) (a : Tree (line g.factor)) (b : Tree following) → source.on ≡ None → IsFactor source a → Follow sources b → From (source ∷ sources) (factor_first a b)
factor_from source sources factor (Both joins more) e h j =
    ap (λ (x : Source). x ∷ map unplaced_source (joins_of joins ++ more_sources_of more)) h
    ∙ ap (λ (x : Option Cond). made_source source.table (unplaced_name source.alias) (unplaced_filter x) ∷ map unplaced_source (joins_of joins ++ more_sources_of more)) (sym e)
    ∙ ap (λ (xs : List Source). unplaced_source source ∷ xs) j

from : (sources : List Source) (m : ℕ) → IsFrom sources → sources_levels sources ≤ m → Derives from_part (From sources) m (sources_pieces sources)
from [] m formed le more ts holds writes = absurd formed
from (source ∷ sources) m formed le more ts holds writes =
    let a = a_factor source m (next_sources sources more) ts holds writes in
    let b = follow sources m formed.1 (omega arith) more a.rest a.holds a.left in
    record {
      tree = factor_first a.tree b.tree;
      rest = b.rest;
      spells = factor_text a.tree b.tree b.rest ∙ ap (text a.tree) b.spells ∙ a.spells;
      left = b.left;
      holds = b.holds;
      good = factor_from source sources a.tree b.tree formed.0 a.good b.good;
      within = factor_depth a.tree b.tree m a.within b.within;
    }

-- ---- what is selected

-- a derivation in another form
reshaped : {p q : Part} {G : Tree p → Type 0} {H : Tree q → Type 0} {m : ℕ} (f : List Piece → List Piece) (to : Tree p → Tree q)
    → ((a : Tree p) (us : List Token) → text (to a) us ≡ text a us) → ((a : Tree p) → depth (to a) ≤ depth a) → ((a : Tree p) → G a → H (to a)) → Derives p G m f → Derives q H m f
reshaped f to same_text deeper good d more ts holds writes =
    let a = d more ts holds writes in
    record {
      tree = to a.tree;
      rest = a.rest;
      spells = same_text a.tree a.rest ∙ a.spells;
      left = a.left;
      holds = a.holds;
      good = good a.tree a.good;
      within = (let w = a.within in let v = deeper a.tree in omega arith);
    }

abbrev where_part : Part
where_part = word k.Where ▸ line g.cond

abbrev IsWhere : Option Cond → Tree (opt where_part) → Type 0
IsWhere filter d = unplaced_filter (filter_of d) ≡ unplaced_filter filter

where_good : (x : Cond) (a : Tree where_part) → Behind (IsC x) a → IsWhere (Some x) (Right a)
where_good x (Both keyword d) h = ap (λ (y : Cond). some y) h
  where
    some : Cond → Option Cond
    some y = Some y

a_filter : (filter : Option Cond) (m : ℕ) → IsFilter filter → filter_levels filter ≤ m → Derives (opt where_part) (IsWhere filter) m (filter_pieces filter)
a_filter None m formed le = as_left (IsWhere None) (λ more. more) (absent Any m tt) (λ a h. refl)
a_filter (Some x) m formed le =
    as_right (IsWhere (Some x)) (λ more. piece.word (codes "WHERE") ∷ cond_pieces x room.Whole more)
    (behind (λ more. piece.word (codes "WHERE") ∷ more) (cond_pieces x room.Whole) (a_word (codes "WHERE") k.Where m refl) (a_condition x m formed le)) (where_good x)

abbrev grouped : Part
grouped = word k.Select ▸ line g.items ▸ word k.From ▸ from_part ▸ opt where_part

abbrev flat_part : Part
flat_part = word k.Select ▸ line g.items ▸ word k.From ▸ line g.source ▸ many (word k.Comma ▸ line g.source) ▸ opt where_part

abbrev flat : Tree grouped → Tree flat_part
flat (Both keyword (Both items (Both from_word (Both (Both first more) filter)))) = Both keyword (Both items (Both from_word (Both first (Both more filter))))

flat_text : (a : Tree grouped) (us : List Token) → text (flat a) us ≡ text a us
flat_text (Both keyword (Both items (Both from_word (Both (Both first more) filter)))) us = refl

flat_depth : (a : Tree grouped) → depth (flat a) ≤ depth a
flat_depth (Both keyword (Both items (Both from_word (Both (Both first more) filter)))) = omega arith

abbrev IsItems : Items → Tree (line g.items) → Type 0
IsItems items d = unplaced_items (items_of d) ≡ unplaced_items items

abbrev IsSelect : Select → Tree (line g.select) → Type 0
IsSelect select d = unplaced_select (select_of d) ≡ unplaced_select select

flat_good : (select : Select) (a : Tree grouped) → Behind (Pair (IsItems select.items) (Behind (Pair (From select.sources) (IsWhere select.filter)))) a → IsSelect select (By (flat a))
flat_good select (Both keyword (Both items (Both from_word (Both (Both first more) filter)))) h =
    ap (λ (x : Items). whole_select x (map unplaced_source (source_of first ++ more_sources_of more)) (unplaced_filter (filter_of filter))) h.0
    ∙ ap (λ (xs : List Source). whole_select (unplaced_items select.items) xs (unplaced_filter (filter_of filter))) h.1.0
    ∙ ap (λ (x : Option Cond). whole_select (unplaced_items select.items) (map unplaced_source select.sources) x) h.1.1

a_select : (select : Select) (m : ℕ) → AreItems select.items → IsFrom select.sources → IsFilter select.filter → sources_levels select.sources ≤ m → filter_levels select.filter ≤ m
    → Derives (line g.select) (IsSelect select) m (select_pieces select)
a_select select m items sources filter le le' =
    as_line g.select (IsSelect select) (select_pieces select)
    (reshaped (select_pieces select) flat flat_text flat_depth (flat_good select)
    (behind (λ more. piece.word (codes "SELECT") ∷ more) (λ more. items_pieces select.items (piece.word (codes "FROM") ∷ sources_pieces select.sources (filter_pieces select.filter more))) (a_word (codes "SELECT") k.Select m refl)
    (pair (items_pieces select.items) (λ more. piece.word (codes "FROM") ∷ sources_pieces select.sources (filter_pieces select.filter more)) (the_items select.items m items)
    (behind (λ more. piece.word (codes "FROM") ∷ more) (λ more. sources_pieces select.sources (filter_pieces select.filter more)) (a_word (codes "FROM") k.From m refl)
    (pair (sources_pieces select.sources) (filter_pieces select.filter) (from select.sources m sources le) (a_filter select.filter m filter le')))))) (λ a h. h)

-- ---- what is declared

type_kind : (kind : ColumnType) (u : Token) → u.kind ≡ token_of (piece.word (type_word kind)) → (among types (kind_of u) ≡ true) × (type_by (kind_of u) ≡ kind)
type_kind column_type.Int u h = let e = word_kind (codes "INT") k.Int refl u h in (subst (λ (x : Kind). among types x ≡ true) (sym e) refl, ap type_by e)
type_kind column_type.Text u h = let e = word_kind (codes "TEXT") k.TextType refl u h in (subst (λ (x : Kind). among types x ≡ true) (sym e) refl, ap type_by e)

a_type : (kind : ColumnType) (m : ℕ) → Derives (token types) (λ d. type_of d ≡ kind) m (λ more. piece.word (type_word kind) ∷ more)
a_type kind m = a_token types (piece.word (type_word kind)) (λ d. type_of d ≡ kind) m (λ u h holds. (type_kind kind u h).0) (λ u is h. (type_kind kind u h).1)

abbrev made_declared : List ℕ → ColumnType → ColumnItem
made_declared n kind = record { at = 0; name = n; kind = kind }

abbrev IsDeclared : ColumnItem → Tree (line g.column) → Type 0
IsDeclared column d = unplaced_declared (column_of d) ≡ unplaced_declared column

a_declared : (column : ColumnItem) (m : ℕ) → Derives (line g.column) (IsDeclared column) m (declared_pieces column)
a_declared column m =
    as_line g.column (IsDeclared column) (declared_pieces column)
    (both (λ d. IsDeclared column (By d)) (λ more. piece.name column.name ∷ more) (λ more. piece.word (type_word column.kind) ∷ more) (a_name column.name m) (a_type column.kind m) good) (λ a h. h)
  where
    good : (a : Tree name) (b : Tree (token types)) → (placed_name a).name ≡ column.name → type_of b ≡ column.kind → IsDeclared column (By (Both a b))
    good a b h j = ap (λ (x : List ℕ). made_declared x (type_of b)) h ∙ ap (λ (x : ColumnType). made_declared column.name x) j

abbrev NextDeclared : ColumnItem → Tree (word k.Comma ▸ line g.column) → Type 0
NextDeclared column (Both comma d) = IsDeclared column d

abbrev AreDeclared : List ColumnItem → Tree (many (word k.Comma ▸ line g.column)) → Type 0
AreDeclared columns d = map unplaced_declared (more_columns_of d) ≡ map unplaced_declared columns

one_declared : (column : ColumnItem) (columns : List ColumnItem) (a : Tree (word k.Comma ▸ line g.column)) (b : Tree (many (word k.Comma ▸ line g.column)))
    → NextDeclared column a → AreDeclared columns b → AreDeclared (column ∷ columns) (More a b)
one_declared column columns (Both comma d) b h j = ap (λ (x : ColumnItem). x ∷ map unplaced_declared (more_columns_of b)) h ∙ ap (λ (xs : List ColumnItem). unplaced_declared column ∷ xs) j

more_declared : (columns : List ColumnItem) (m : ℕ) → Derives (many (word k.Comma ▸ line g.column)) (AreDeclared columns) m (behind_each (piece.mark marks.Comma) declared_pieces columns)
more_declared [] m = no_more (word k.Comma ▸ line g.column) (AreDeclared []) m refl
more_declared (column ∷ columns) m =
    one_more (AreDeclared (column ∷ columns)) (λ more. piece.mark marks.Comma ∷ declared_pieces column more) (behind_each (piece.mark marks.Comma) declared_pieces columns)
    (both (NextDeclared column) (λ more. piece.mark marks.Comma ∷ more) (declared_pieces column) (a_mark marks.Comma k.Comma m refl) (a_declared column m) (λ a b h j. j)) (more_declared columns m) (one_declared column columns)

abbrev made_table : List ℕ → List ColumnItem → CreateTable
made_table n columns = record { at = 0; name = n; columns = columns }

abbrev create_part : Part
create_part = word k.Create ▸ word k.Table ▸ name ▸ word k.LeftParen ▸ line g.column ▸ many (word k.Comma ▸ line g.column) ▸ word k.RightParen ▸ word k.Semicolon

table_good : (n : List ℕ) (column : ColumnItem) (columns : List ColumnItem) (d : Tree create_part)
    → Behind (Behind (Pair (λ x. (placed_name x).name ≡ n) (Behind (Pair (IsDeclared column) (Pair (AreDeclared columns) Any))))) d
    → unplaced_table (create_of (By d)) ≡ made_table n (map unplaced_declared (column ∷ columns))
table_good n column columns (Both keyword (Both table (Both called (Both left (Both first (Both more (Both right semicolon))))))) h =
    ap (λ (x : List ℕ). made_table x (unplaced_declared (column_of first) ∷ map unplaced_declared (more_columns_of more))) h.0
    ∙ ap (λ (x : ColumnItem). made_table n (x ∷ map unplaced_declared (more_columns_of more))) h.1.0
    ∙ ap (λ (xs : List ColumnItem). made_table n (unplaced_declared column ∷ xs)) h.1.1.0

columns_pieces : List ℕ → ColumnItem → List ColumnItem → List Piece → List Piece
columns_pieces n column columns more = piece.word (codes "CREATE") ∷ piece.word (codes "TABLE") ∷ piece.name n ∷ piece.mark marks.LeftParen
    ∷ declared_pieces column (behind_each (piece.mark marks.Comma) declared_pieces columns (piece.mark marks.RightParen ∷ piece.mark marks.Semicolon ∷ more))

a_table_of : (n : List ℕ) (column : ColumnItem) (columns : List ColumnItem) (m : ℕ)
    → Derives (line g.create) (λ d. unplaced_table (create_of d) ≡ made_table n (map unplaced_declared (column ∷ columns))) m (columns_pieces n column columns)
unfolding columns_pieces
a_table_of n column columns m =
    as_line g.create (λ d. unplaced_table (create_of d) ≡ made_table n (map unplaced_declared (column ∷ columns))) (columns_pieces n column columns)
    (derives_good (columns_pieces n column columns) (table_good n column columns)
    (behind (λ more. piece.word (codes "CREATE") ∷ more)
    (λ more. piece.word (codes "TABLE") ∷ piece.name n ∷ piece.mark marks.LeftParen ∷ declared_pieces column (behind_each (piece.mark marks.Comma) declared_pieces columns (piece.mark marks.RightParen ∷ piece.mark marks.Semicolon ∷ more)))
    (a_word (codes "CREATE") k.Create m refl)
    (behind (λ more. piece.word (codes "TABLE") ∷ more)
    (λ more. piece.name n ∷ piece.mark marks.LeftParen ∷ declared_pieces column (behind_each (piece.mark marks.Comma) declared_pieces columns (piece.mark marks.RightParen ∷ piece.mark marks.Semicolon ∷ more)))
    (a_word (codes "TABLE") k.Table m refl)
    (pair (λ more. piece.name n ∷ more)
    (λ more. piece.mark marks.LeftParen ∷ declared_pieces column (behind_each (piece.mark marks.Comma) declared_pieces columns (piece.mark marks.RightParen ∷ piece.mark marks.Semicolon ∷ more)))
    (a_name n m)
    (behind (λ more. piece.mark marks.LeftParen ∷ more)
    (λ more. declared_pieces column (behind_each (piece.mark marks.Comma) declared_pieces columns (piece.mark marks.RightParen ∷ piece.mark marks.Semicolon ∷ more)))
    (a_mark marks.LeftParen k.LeftParen m refl)
    (pair (declared_pieces column) (λ more. behind_each (piece.mark marks.Comma) declared_pieces columns (piece.mark marks.RightParen ∷ piece.mark marks.Semicolon ∷ more)) (a_declared column m)
    (pair (behind_each (piece.mark marks.Comma) declared_pieces columns) (λ more. piece.mark marks.RightParen ∷ piece.mark marks.Semicolon ∷ more) (more_declared columns m)
    (both Any (λ more. piece.mark marks.RightParen ∷ more) (λ more. piece.mark marks.Semicolon ∷ more) (a_mark marks.RightParen k.RightParen m refl) (a_mark marks.Semicolon k.Semicolon m refl) (λ a b h j. tt))))))))) (λ a h. h)

abbrev IsTable : CreateTable → Tree (line g.create) → Type 0
IsTable table d = unplaced_table (create_of d) ≡ unplaced_table table

a_table_by : (n : List ℕ) (columns : List ColumnItem) (m : ℕ) → 1 ≤ length columns
    → Derives (line g.create) (λ d. unplaced_table (create_of d) ≡ made_table n (map unplaced_declared columns)) m
    (λ more. piece.word (codes "CREATE") ∷ piece.word (codes "TABLE") ∷ piece.name n ∷ piece.mark marks.LeftParen
    ∷ between_all (piece.mark marks.Comma) declared_pieces columns (piece.mark marks.RightParen ∷ piece.mark marks.Semicolon ∷ more))
unfolding columns_pieces
a_table_by n [] m some = absurd (omega arith)
a_table_by n (column ∷ columns) m some = a_table_of n column columns m

a_table : (table : CreateTable) (m : ℕ) → 1 ≤ length table.columns → Derives (line g.create) (IsTable table) m (table_pieces table)
a_table table m some = a_table_by table.name table.columns m some

the_tables : (tables : List CreateTable) (m : ℕ) → HaveColumns tables → Derives (many (line g.create)) (λ d. map unplaced_table (creates_of d) ≡ map unplaced_table tables) m (tables_pieces tables)
the_tables [] m formed = no_more (line g.create) (λ d. map unplaced_table (creates_of d) ≡ []) m refl
the_tables (table ∷ tables) m formed =
    one_more (λ d. map unplaced_table (creates_of d) ≡ map unplaced_table (table ∷ tables)) (table_pieces table) (tables_pieces tables)
    (a_table table m formed.0) (the_tables tables m formed.1)
    (λ a b h j. ap (λ (x : CreateTable). x ∷ map unplaced_table (creates_of b)) h ∙ ap (λ (xs : List CreateTable). unplaced_table table ∷ xs) j)

-- ---- the script

last_kind : (u : Token) → u.kind ≡ token_of (piece.mark marks.Semicolon) → among (k.Semicolon ∷ []) (kind_of u) ≡ true
last_kind u h = subst (λ (x : Kind). among (k.Semicolon ∷ []) x ≡ true) (sym (mark_kind marks.Semicolon k.Semicolon refl u h)) refl

pub reread : (script : Script) → IsWellFormed script → script_levels script ≤ MAX_LEVELS → ArePieces (script_pieces script [])
    → (ts : List Token) → Writes (script_pieces script []) ts → (again : Script) × IsSentence MAX_LEVELS ts again × (unplaced again ≡ unplaced script)
reread script formed le holds ts writes =
    let tables = the_tables script.tables 64 formed.tables (select_pieces script.select []) ts holds writes in
    let select = a_select script.select 64 formed.items formed.sources formed.filter (omega arith) (omega arith) [] tables.rest tables.holds tables.left in
    let last = select.left in
    let semicolon = Leaf {kinds = k.Semicolon ∷ []} last.0 (last_kind last.0 last.2) in
    let derivation = By {l = g.script} (Both tables.tree (Both select.tree (Right semicolon))) in (
      script_of derivation,
      record {
        derivation = derivation;
        spells = ap (λ (us : List Token). text tables.tree (text select.tree us)) (sym last.1) ∙ ap (text tables.tree) select.spells ∙ tables.spells;
        within = (let v = tables.within in let w = select.within in omega arith);
        means = refl;
      },
      ap (λ (xs : List CreateTable). whole_script xs (unplaced_select (select_of select.tree))) tables.good ∙ ap (λ (x : Select). whole_script (map unplaced_table script.tables) x) select.good,
    )
