use Rattle.std.proofs.Common.{◌≢◌, ℕ, Some, IfSome, IsTrue, true, sym, subst}
use Rattle.wax_program.specs.{Bits.places_of, Steady.{IsKnown, IsSteady}, Threads.Advances}
use Rattle.wax_program.proofs.rounds.by_slash.Goals as goal

pub returns-then-word-known : goal.returns-then-word-known
returns-then-word-known c =
    let known : IfSome (Some c.in_ok-known.known) (IsKnown c.args.program.now.0) =
    rw c.in_ok-known.was at c.requires.known in
    let slash : IfSome (Some c.in_ok-word.word)
    (λ word. Advances c.args.program.now.0 47 (places_of word) (places_of word)) =
    rw c.in_ok-word.was at c.requires.slash in
    let same = sym c.if-word-known.true in
    let code = c.args.program.now.0 in
    let held : IsKnown code (record {
      word = c.in_ok-word.word;
      watch = c.in_ok-known.known.watch;
      by_slash = true;
      by_others = c.in_ok-known.known.by_others;
    }) = record {
      below = known.below;
      steady = subst (λ w. IsSteady code (places_of w) c.in_ok-known.known.watch) same known.steady;
      slash = λ _. slash;
      others = subst (λ w. IsTrue c.in_ok-known.known.by_others → (d : ℕ) → d ≢ 47
          → Advances code d (places_of w) (places_of w)) same known.others;
    } in held
