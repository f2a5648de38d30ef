-- Sets of relations that may be joined first.
use Rattle.std.specs.Prelude.{ℕ, Bool, List}
use Rattle.join_graph.specs.declared.tree.Link.{Link}
use Rattle.join_graph.specs.JoinList.{BeginsWith, IsJoinList}

-- a safe set: some join list begins with it
abbrev pub IsSafe : List (List ℕ) → (ℕ → Bool) → Type 0
IsSafe vs set = (root : ℕ) × (links : List Link) × IsJoinList vs root links × BeginsWith set root links
