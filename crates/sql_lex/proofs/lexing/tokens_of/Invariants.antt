use Rattle.std.proofs.Common.{◌≡◌, ◌≤◌, ◌-◌, length}
use Rattle.sql_lex.specs.Lexing.{lexed, joined_tokens, tokens_behind}
use Rattle.sql_lex.proofs.lexing.tokens_of.Given as goal

abbrev pub invariant-loop-rest : goal.invariant-loop-rest
invariant-loop-rest l = record {
  within : length l.rest ≤ length l.bytes;
  said : lexed l.bytes ≡ joined_tokens l.tokens.items (tokens_behind 0 (length l.bytes - length l.rest) l.rest);
}

abbrev pub decreases-loop-rest : goal.decreases-loop-rest
decreases-loop-rest l = length l.rest
