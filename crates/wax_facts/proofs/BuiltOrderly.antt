-- What the parser reads and the rules let pass is orderly.
use Rattle.std.proofs.Common.{List, [], ℕ, ◌∷◌, ◌≡◌}
use Rattle.wax_token.specs.{Reads.{Reads, Span}, Syntax.Tree}
use Rattle.wax_facts.specs.{Rules.broken, Orderly.{Flat, Full, Orderly}}
use Rattle.wax_facts.proofs.{BrokenApart.broken_apart, ReadsFull.reads_full, ReadsWorded.reads_worded}

pub built_orderly : (c : ℕ) (cs : List ℕ) (t : Tree Span) → Reads (c ∷ cs) t → broken t ≡ [] → Orderly t
built_orderly c cs t r b = let k : Full t × Flat t = reads_full (c ∷ cs) t r in
    (k.0, k.1, reads_worded c cs t r, broken_apart t k.1 b)
