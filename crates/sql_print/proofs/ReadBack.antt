-- From the printed text to its tokens and its script.
use Rattle.std.proofs.Common.{◌≡◌, ◌∙◌, ap, sym, refl, subst, ℕ, ◌≤◌, ◌-◌, List, [], ◌∷◌, length, Ok}
use Rattle.rpt_base.specs.declared.limits.TheConstants.{MAX_LEVELS}
use Rattle.sql_lex.specs.declared.tokens.Token.{Token}
use Rattle.sql_lex.specs.Tokens.{IsTokenList, without_order_mark}
use Rattle.sql_lex.specs.Lexing.{tokens_behind, lexed}
use Rattle.sql_grammar.specs.declared.tree.CreateTable.{CreateTable}
use Rattle.sql_grammar.specs.declared.tree.Select.{Select}
use Rattle.sql_grammar.specs.declared.tree.Script.{Script}
use Rattle.sql_grammar.specs.Formed.{IsWellFormed}
use Rattle.sql_print.specs.Pieces.{shown_text, ArePieces}
use Rattle.sql_print.specs.Printed.{tables_pieces, select_pieces, script_pieces, printed_text, script_levels}
use Rattle.sql_print.specs.Puts.{IsShown}
use Rattle.sql_print.specs.Writes.{Writes}
use Rattle.sql_print.specs.Unplaced.{IsReadBack}
use Rattle.sql_print.proofs.Lexed.{read_all}
use Rattle.sql_print.proofs.Reread.{reread}

-- a script begins with a keyword, and so with no byte order mark
no_mark : (tables : List CreateTable) (select : Select) → without_order_mark (shown_text (tables_pieces tables (select_pieces select []))) ≡ shown_text (tables_pieces tables (select_pieces select []))
no_mark [] select = refl
no_mark (table ∷ tables) select = refl

lexes : (script : Script) → ArePieces (script_pieces script []) → (tokens : List Token) × (lexed (printed_text script) ≡ Ok tokens) × Writes (script_pieces script []) tokens
unfolding lexed
lexes script holds =
    let at = length (printed_text script) - length (without_order_mark (printed_text script)) in
    let r = read_all (script_pieces script []) holds at in
    (r.tokens, ap (λ (bytes : List ℕ). tokens_behind 0 at bytes) (no_mark script.tables script.select) ∙ r.reads, r.writes)

pub read_back : (script : Script) (bytes : List ℕ) → IsWellFormed script → script_levels script ≤ MAX_LEVELS → IsShown script bytes
    → ((bytes : List ℕ) (tokens : List Token) → lexed bytes ≡ Ok tokens → IsTokenList bytes tokens) → IsReadBack script bytes
read_back script bytes formed le is listed =
    let l = lexes script is.1 in
    let again = reread script formed le is.1 l.0 l.2 in
    (l.0, subst (λ (text : List ℕ). IsTokenList text l.0) (sym is.0) (listed (printed_text script) l.0 l.1), again)
