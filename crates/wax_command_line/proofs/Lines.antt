-- Lines of a walk that is still going.
use Rattle.std.proofs.Common.{◌≡◌, ℕ, ◌<◌, Bool, true, false, List, [], ◌∷◌, ◌++◌, refl, sym, ap, subst, ◌∙◌}
use Rattle.std.proofs.{Common.append_assoc, KnownBytes.{Appends-nil, Appends-trans}}
use Rattle.std.proofs.{lemmas.Grind.flat_map-append, lemmas.List.append-nil}
use Rattle.std.proofs.lemmas.List.Folds.{list_any-append}
use Rattle.std.specs.Prelude.{Option, Some, None, Result, Ok, Err, IfErr, IsErrAnd, filter, ◌||◌}
use Rattle.std.specs.{Io.KnownBytes.Appends, List.list_any}
use Rattle.wax_directory.specs.Law.{Law}
use Rattle.wax_lines.specs.declared.lines.LinesError.{LinesError}
use Rattle.wax_lines.specs.{declared.lines.LinesError.TheVariants.{Memory, Write}, Written.WritesPart}
use Rattle.wax_walk.specs.Collected.{EndsThere, IsCutShort, TookCourse, cut_short}
use Rattle.wax_walk.specs.Course.{DirectoryCall, answers, asking, calls_of, items_of, unknown}
use Rattle.wax_walk.specs.declared.error.FaultKind.TheVariants.{Budget}
use Rattle.wax_walk.specs.Forest.{Pending, all_pending, preorder}
use Rattle.wax_walk.specs.Given.{Given, kept, alone, with_tree, entry, fault, no_memory, is_kept}
use Rattle.wax_walk.specs.View.{WalkView, FeedStep, IsLast, MayTake}
use Rattle.wax_walk.proofs.Collecting.{GaveSoFar, goes_on, lacked_memory, was_over_budget, Taking}
use Rattle.wax_walk.proofs.Collecting.{taking_none, taking_more, taking_end}
use Rattle.wax_walk.proofs.Courses.{calls_asking, first_asking, items_asking}
use Rattle.wax_walk.proofs.Taking.{TakingCourse, answered_more, cut_off, going}
use Rattle.wax_command_line.specs.Candidates.{candidate_line, candidate_lines, is_error}
use Rattle.wax_command_line.specs.inner.Written.{MovesBytes, StopsAt, WroteAll, WroteSome}

lines_more : (xs : List Given) (x : Given) → candidate_lines (xs ++ x ∷ [])
    ≡ candidate_lines xs ++ candidate_line x
lines_more xs x = flat_map-append candidate_line xs (x ∷ [])
    ∙ ap (λ v. candidate_lines xs ++ v) (append-nil (candidate_line x))

-- a beginning of all this
abbrev Starts : List Given → List Given → Type 0
Starts all xs = (rest : List ℕ) × (candidate_lines xs ++ rest ≡ candidate_lines all)

cut_starts : (all : List Given) (x : Given) (xs : List Given) → candidate_line x ≡ []
    → IsCutShort all x xs → Starts all xs
cut_starts all x xs e c = (
  candidate_lines c.1,
  ap (λ v. v ++ candidate_lines c.1) (ap candidate_lines c.2
      ∙ (lines_more c.0 x ∙ (ap (λ v. candidate_lines c.0 ++ v) e ∙ append-nil (candidate_lines c.0))))
      ∙ (sym (flat_map-append candidate_line c.0 c.1) ∙ ap candidate_lines c.3),
)

gave_starts : {D : Type 0} (allowed : ℕ) (now : WalkView D) (p : Pending Given) (xs : List Given)
    → GaveSoFar allowed now p xs → Starts (preorder (all_pending p)) xs
gave_starts allowed now p xs (goes_on q c e k few) = (
  candidate_lines (preorder (all_pending q)),
  sym (flat_map-append candidate_line xs (preorder (all_pending q))) ∙ ap candidate_lines e,
)
gave_starts allowed now p xs (lacked_memory e c) = cut_starts _ no_memory xs refl c
gave_starts allowed now p xs (was_over_budget e path depth few listed c) =
    cut_starts _ (fault Budget path depth) xs refl c

-- ---- a walk that didn't go on

-- if no item ended a walk, the error that memory ran out is the only one that does
lacking_ends : (xs : List Given)
    → ((before after : List Given) (y : Given) → xs ≡ before ++ y ∷ after → IsLast (Some y) → ⊥)
    → EndsThere (xs ++ no_memory ∷ [])
lacking_ends [] n [] after y e last = cc
lacking_ends [] n (b ∷ before) after y e last =
    let i : [] ≡ before ++ y ∷ after = cc in absurd (none before i) where
      none : (before : List Given) → [] ≡ before ++ y ∷ after → ⊥
      none [] e = cc
      none (c ∷ before) e = cc
lacking_ends (x ∷ xs) n [] after y e last =
    let same : x ≡ y = cc in absurd (n [] xs y (ap (λ z. z ∷ xs) same) last)
lacking_ends (x ∷ xs) n (b ∷ before) after y e last =
    let i : xs ++ no_memory ∷ [] ≡ before ++ y ∷ after = cc in
    lacking_ends xs (λ front back z f. n (x ∷ front) back z (ap (λ v. x ∷ v) f)) before after y i last

-- these calls and items are those of a course that memory cut short
lacking_course : {D : Type 0} (walk mid : WalkView D) (before calls : List DirectoryCall) (xs : List Given)
    → ¬ mid.has_ended → MayTake mid (asking calls unknown) → TakingCourse walk mid before xs
    → TookCourse walk (answers (before ++ calls)) (xs ++ no_memory ∷ [])
lacking_course walk mid before calls xs n begins (going g) =
    let c = g (asking calls unknown) begins in
    let asked : calls_of c.course ≡ before ++ calls =
    c.calls_are ∙ ap (λ v. before ++ v) (calls_asking calls unknown ∙ append-nil calls) in
    let came : items_of c.course ≡ xs =
    c.items_are ∙ (ap (λ v. xs ++ v) (items_asking calls unknown) ∙ append-nil xs) in
    cut_short c.course no_memory c.takes (c.first (first_asking calls unknown tt)) (ap answers (sym asked))
    (ap (λ v. v ++ no_memory ∷ []) (sym came)) tt
lacking_course walk mid before calls xs n begins (cut_off c y t l i j s ended idle) = absurd (n ended)

module _ {D C : Type 0} (law : Law D C) (walk : WalkView D) where
  -- these items were given so far; some of their lines were written, and the others wait
  pub record Writing (now : WalkView D) (most less : ℕ) (held held' : Option (List ℕ)) (waiting : List ℕ)
      (has_errors : Bool) : Type 0 where
    pub given : List Given
    pub taking : Taking law walk now most less given
    pub moves : MovesBytes held held' [] waiting (candidate_lines given)
    pub errors : has_errors ≡ list_any is_error given

  pub writing_none : (most : ℕ) (held : Option (List ℕ)) → Writing walk most most held held [] false
  writing_none most held = record {
    given = [];
    taking = taking_none law walk most;
    moves = ([], Appends-nil held, refl);
    errors = refl;
  }

  moves_more : (held mid held' : Option (List ℕ)) (waiting waiting' front line : List ℕ)
      → MovesBytes held mid [] waiting front → MovesBytes mid held' waiting waiting' line
      → MovesBytes held held' [] waiting' (front ++ line)
  moves_more held mid held' waiting waiting' front line m n = (
    m.0 ++ n.0,
    Appends-trans _ _ _ _ _ m.1 n.1,
    append_assoc m.0 n.0 waiting'
        ∙ (ap (λ v. m.0 ++ v) n.2 ∙ (sym (append_assoc m.0 waiting line) ∙ ap (λ v. v ++ line) m.2)),
  )

  -- one more item
  pub writing_more : (mid now : WalkView D) (most less fewer : ℕ) (held middle held' : Option (List ℕ))
      (waiting waiting' : List ℕ) (had has : Bool) (x : Given)
      → Writing mid most less held middle waiting had → FeedStep law mid (Some x) now → fewer < less
      → MovesBytes middle held' waiting waiting' (candidate_line x)
      → has ≡ (had || is_error x) → Writing now most fewer held held' waiting' has
  writing_more mid now most less fewer held middle held' waiting waiting' had has x w f l m e = record {
    given = w.given ++ x ∷ [];
    taking = taking_more law walk mid now most less fewer w.given x w.taking f l;
    moves = subst (MovesBytes held held' [] waiting') (sym (lines_more w.given x)) (moves_more held middle
        held' waiting waiting' (candidate_lines w.given) (candidate_line x) w.moves m);
    errors = e ∙ (ap (λ v. v || is_error x) w.errors ∙ (or_none (list_any is_error w.given) (is_error x)
        ∙ sym (list_any-append is_error w.given (x ∷ []))));
  } where
    or_none : (a b : Bool) → (a || b) ≡ (a || (b || false))
    or_none true b = refl
    or_none false true = refl
    or_none false false = refl

  -- the end
  pub writing_end : (mid now : WalkView D) (most less : ℕ) (held middle held' : Option (List ℕ))
      (waiting : List ℕ) (has : Bool)
      → Writing mid most less held middle waiting has → FeedStep law mid None now
      → ((q : Pending Given) → now.to_come q → law.tells now.directory q.listed)
      → Appends middle held' waiting → WroteAll law walk held held' has
  writing_end mid now most less held middle held' waiting has w f t a = record {
    directory = now.directory;
    given = w.given;
    took = taking_end law walk mid now most less 0 w.given w.taking f t;
    writes = subst (Appends held held') w.moves.2 (Appends-trans _ _ _ _ _ w.moves.1 a);
    errors = w.errors;
  }

  -- bytes that waited were written
  pub writing_moved : (now : WalkView D) (most less : ℕ) (held middle held' : Option (List ℕ))
      (waiting waiting' : List ℕ) (had : Bool) → Writing now most less held middle waiting had
      → MovesBytes middle held' waiting waiting' [] → Writing now most less held held' waiting' had
  writing_moved now most less held middle held' waiting waiting' had w m = record {
    given = w.given;
    taking = w.taking;
    moves = subst (MovesBytes held held' [] waiting') (append-nil (candidate_lines w.given))
        (moves_more held middle held' waiting waiting' (candidate_lines w.given) [] w.moves m);
    errors = w.errors;
  }

  part_of : (bytes front rest line tail whole : List ℕ) → front ++ rest ≡ line
      → bytes ++ (line ++ tail) ≡ whole → (bytes ++ front) ++ (rest ++ tail) ≡ whole
  part_of bytes front rest line tail whole e f =
      append_assoc bytes front (rest ++ tail)
      ∙ (ap (λ v. bytes ++ v) (sym (append_assoc front rest tail) ∙ ap (λ v. v ++ tail) e) ∙ f)

  -- a prefix of the waiting bytes was written
  module _ (mid now : WalkView D) (most less : ℕ) (held middle held' : Option (List ℕ)) (waiting : List ℕ)
      (had : Bool) (w : Writing mid most less held middle waiting had)
      (error : LinesError) (stops : StopsAt middle held' waiting error) where
    abbrev part : WritesPart middle held' waiting
    part = stops.part

    abbrev written : List ℕ
    written = w.moves.0 ++ part.front

    written_starts : (p : Pending Given) → walk.to_come p
        → (rest : List ℕ) × (written ++ rest ≡ candidate_lines (preorder (all_pending p)))
    written_starts p c =
        let starts = gave_starts walk.listings_left mid p w.given (w.taking.gave p c) in (
          part.rest ++ starts.0,
          part_of w.moves.0 part.front part.rest waiting starts.0 _ (sym part.splits)
              (sym (append_assoc w.moves.0 waiting starts.0)
              ∙ (ap (λ v. v ++ starts.0) w.moves.2 ∙ starts.1)),
        )

    written_lines : written ++ part.rest ≡ candidate_lines w.given
    written_lines =
        append_assoc w.moves.0 part.front part.rest
        ∙ (ap (λ v. w.moves.0 ++ v) (sym part.splits) ∙ w.moves.2)

    -- before the line of one more item was added
    pub writing_part : (x : Given) → FeedStep law mid (Some x) now → WroteSome law walk held held' error
    writing_part x f =
        let running : ¬ mid.has_ended = λ i. let s : Some x ≡ None = (f.stays i).0 in cc in record {
          bytes = written;
          writes = Appends-trans _ _ _ _ _ w.moves.1 part.writes;
          starts = written_starts;
          directory = now.directory;
          told = answers (w.taking.calls ++ f.calls);
          answered = answered_more law.answered walk.directory mid.directory now.directory w.taking.calls
              f.calls w.taking.answered f.answered;
          given = w.given ++ no_memory ∷ [];
          course = lacking_course walk mid w.taking.calls f.calls w.given running f.begins w.taking.course;
          ends_there = lacking_ends w.given (λ before after y e last.
              running (w.taking.ended before after y e last).1);
          unwritten = part.rest;
          lines = written_lines ∙ sym (lines_more w.given no_memory ∙ append-nil (candidate_lines w.given));
          whole = stops.whole;
        }

    -- at the end
    pub writing_last : FeedStep law mid None now
        → ((q : Pending Given) → now.to_come q → law.tells now.directory q.listed)
        → WroteSome law walk held held' error
    writing_last f t = let took = taking_end law walk mid now most less 0 w.given w.taking f t in record {
      bytes = written;
      writes = Appends-trans _ _ _ _ _ w.moves.1 part.writes;
      starts = written_starts;
      directory = now.directory;
      told = took.told;
      answered = took.answered;
      given = w.given;
      course = took.course;
      ends_there = took.ends_there;
      unwritten = part.rest;
      lines = written_lines;
      whole = stops.whole;
    }

-- a write that failed
pub stops_writing : (held held' : Option (List ℕ)) (bytes : List ℕ) (error : LinesError) → error ≡ Write
    → WritesPart held held' bytes → StopsAt held held' bytes error
stops_writing held held' bytes error is part =
    record { part = part; whole = λ m. absurd (let no : Write ≡ Memory = sym is ∙ m in (cc)) }

-- memory ran out, and the bytes were written
pub stops_whole : (held held' : Option (List ℕ)) (bytes : List ℕ) → Appends held held' bytes
    → StopsAt held held' bytes Memory
stops_whole held held' bytes a = record {
  part = record { front = bytes; rest = []; splits = sym (append-nil bytes); writes = a };
  whole = λ m. refl;
}

-- the error that the exit of a `?` passes on
pub err_holds : {A E : Type 0} (P : E → Type 0) (r : Result A E) (e : E) → IsErrAnd r (λ y. y ≡ e) → P e
    → IfErr r P
err_holds P (Ok a) e is p = tt
err_holds P (Err y) e is p = subst P (sym is) p

-- ---- nothing is written for what is excluded

pub lines_kept : (xs : List Given) → candidate_lines xs ≡ candidate_lines (filter is_kept xs)
lines_kept [] = refl
lines_kept (entry kept f ∷ xs) = ap (λ v. candidate_line (entry kept f) ++ v) (lines_kept xs)
lines_kept (entry alone f ∷ xs) = lines_kept xs
lines_kept (entry with_tree f ∷ xs) = lines_kept xs
lines_kept (fault kind path depth ∷ xs) = lines_kept xs
lines_kept (no_memory ∷ xs) = lines_kept xs

pub errors_kept : (xs : List Given) → list_any is_error xs ≡ list_any is_error (filter is_kept xs)
errors_kept [] = refl
errors_kept (entry kept f ∷ xs) = errors_kept xs
errors_kept (entry alone f ∷ xs) = errors_kept xs
errors_kept (entry with_tree f ∷ xs) = errors_kept xs
errors_kept (fault kind path depth ∷ xs) = refl
errors_kept (no_memory ∷ xs) = refl

pub map_err : {A E : Type 0} {P Q : E → Type 0} → ((e : E) → P e → Q e) → (r : Result A E) → IfErr r P
    → IfErr r Q
map_err f (Ok a) h = tt
map_err f (Err e) h = f e h
