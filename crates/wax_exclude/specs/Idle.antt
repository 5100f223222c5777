-- Lines of ignore lists that decide nothing about plain paths. Lines are known by their indexes: which of
-- them ignore, and which texts they mean.
use Rattle.std.specs.Prelude.{◌≡◌, ◌≢◌, ◌⊎◌, ◌<◌, ◌==◌, ◌++◌, [], ◌∷◌, ℕ, suc, Bool, true, false, List, Some}
use Rattle.std.specs.{Prelude.{Contains, filter, if◌then◌else◌, length, map, slice_get, ⊤}, List.list_any}
use Rattle.std.specs.Str.{all_scalars}
use Rattle.wax_query.specs.Below.{IsPlainPath}
use Rattle.wax_exclude.specs.{Ignored.{Line, is_ignored}, declared.idle.IdleLine.IdleLine}
use Rattle.wax_exclude.specs.declared.idle.IdleReason.{IdleReason}
use Rattle.wax_exclude.specs.declared.idle.IdleReason.TheVariants.{Covered, TakesNothingBack, Unknown}
use Rattle.wax_token.specs.{Meaning.Means, Reads.Span}

-- the line with this index ignores
pub record LineIgnores {A : Type 0} (lines : List (Line A)) (index : ℕ) : Type 0 where
  pub line : Line A
  pub is : slice_get lines index ≡ Some line
  pub ignores : line.ignores ≡ true

-- the glob of the line with this index means the text
pub record LineMeans {A : Type 0} (lines : List (Line A)) (index : ℕ) (s : List ℕ) : Type 0 where
  pub line : Line A
  pub is : slice_get lines index ≡ Some line
  pub means : Means line.glob false false s

-- a text of one or more names, with a `/` between each two
abbrev pub IsPath : List ℕ → Type 0
IsPath s = (all_scalars s ≡ true) × IsPlainPath s

-- each plain path that the line matches is matched by one of these lines after it
abbrev pub IsCoveredBy : (ℕ → List ℕ → Type 0) → ℕ → List ℕ → Type 0
IsCoveredBy Matches index covers = (s : List ℕ) → IsPath s → Matches index s
    → (later : ℕ) × Contains covers later × (index < later) × Matches later s

-- an earlier line that ignores means the text, too
abbrev pub IsTakenBack : (ℕ → Type 0) → (ℕ → List ℕ → Type 0) → ℕ → List ℕ → Type 0
IsTakenBack Ignores Matches index s =
    Matches index s × ((earlier : ℕ) × (earlier < index) × Ignores earlier × Matches earlier s)

-- the line doesn't ignore, and no earlier line that ignores means a plain path that it means
pub record TakesNothing (Ignores : ℕ → Type 0) (Matches : ℕ → List ℕ → Type 0) (index : ℕ) : Type 0 where
  pub re_includes : Ignores index → ⊥
  pub none : (s : List ℕ) → IsPath s → IsTakenBack Ignores Matches index s → ⊥

-- the line ignores, or an earlier line that ignores means a plain path that it means
abbrev pub HasEffect : (ℕ → Type 0) → (ℕ → List ℕ → Type 0) → ℕ → Type 0
HasEffect Ignores Matches index =
    Ignores index ⊎ ((s : List ℕ) × IsPath s × IsTakenBack Ignores Matches index s)

-- the line is the last one that means some plain path
pub record IsLastOfSome (Matches : ℕ → List ℕ → Type 0) (index : ℕ) : Type 0 where
  pub path : List ℕ
  pub is_path : IsPath path
  pub means : Matches index path
  pub is_last : (later : ℕ) → index < later → Matches later path → ⊥

-- the line decides some plain path, and has an effect
abbrev pub DecidesSome : (ℕ → Type 0) → (ℕ → List ℕ → Type 0) → ℕ → Type 0
DecidesSome Ignores Matches index = IsLastOfSome Matches index × HasEffect Ignores Matches index

-- this is why the line decides nothing
abbrev pub IsReason : (ℕ → Type 0) → (ℕ → List ℕ → Type 0) → ℕ → IdleReason → Type 0
IsReason Ignores Matches index (Covered covers) = IsCoveredBy Matches index covers.items
IsReason Ignores Matches index TakesNothingBack = TakesNothing Ignores Matches index
IsReason Ignores Matches index Unknown = ⊤

-- Of so many lines these decide nothing, each for its reason, or it isn't known; and all others decide. They
-- are in order.
pub record AreIdleAmong (Ignores : ℕ → Type 0) (Matches : ℕ → List ℕ → Type 0) (count : ℕ)
    (idle : List IdleLine) : Type 0 where
  pub within : (k : ℕ) (x : IdleLine) → slice_get idle k ≡ Some x → x.index < count
  pub ascending : (j k : ℕ) (x y : IdleLine) → j < k → slice_get idle j ≡ Some x
      → slice_get idle k ≡ Some y → x.index < y.index
  pub each : (k : ℕ) (x : IdleLine) → slice_get idle k ≡ Some x → IsReason Ignores Matches x.index x.reason
  pub others : (index : ℕ) → index < count
      → ((k : ℕ) (x : IdleLine) → slice_get idle k ≡ Some x → x.index ≢ index)
      → DecidesSome Ignores Matches index

-- this holds of the lines of a list
abbrev pub AreIdle : {A : Type 0} → List (Line A) → List IdleLine → Type 0
AreIdle lines idle = AreIdleAmong (LineIgnores lines) (LineMeans lines) (length lines) idle

-- without a line that decides nothing, a list ignores the same plain paths
abbrev pub IdleLinesCanGo : Type 0
IdleLinesCanGo = (before after : List (Line Span)) (line : Line Span) (reason : IdleReason) (s : List ℕ)
    → reason ≢ Unknown → IsPath s
    → IsReason (LineIgnores (before ++ line ∷ after)) (LineMeans (before ++ line ∷ after)) (length before)
    reason
    → is_ignored (before ++ after) s ≡ is_ignored (before ++ line ∷ after) s

-- ---- lines that go together

-- the elements whose indexes don't pass the test
abbrev pub drop_where : {X : Type 0} → (ℕ → Bool) → List X → List X
drop_where goes [] = []
drop_where goes (x ∷ xs) =
    if goes 0 then drop_where (λ k. goes (suc k)) xs else x ∷ drop_where (λ k. goes (suc k)) xs

-- the elements whose indexes aren't among these
abbrev pub without : {X : Type 0} → List ℕ → List X → List X
without indexes xs = drop_where (λ k. list_any (λ i. i == k) indexes) xs

-- the line with this index decides nothing, and it is known why
pub record DecidesNothing {A : Type 0} (lines : List (Line A)) (index : ℕ) : Type 0 where
  pub reason : IdleReason
  pub is_known : reason ≢ Unknown
  pub is : IsReason (LineIgnores lines) (LineMeans lines) index reason

-- without some of the lines that decide nothing, a list ignores the same plain paths
abbrev pub IdleLinesCanGoTogether : Type 0
IdleLinesCanGoTogether = (lines : List (Line Span)) (indexes : List ℕ) (s : List ℕ)
    → ((index : ℕ) → Contains indexes index → DecidesNothing lines index) → IsPath s
    → is_ignored (without indexes lines) s ≡ is_ignored lines s

-- whether it is known why a line decides nothing
abbrev pub is_known : IdleReason → Bool
is_known (Covered covers) = true
is_known TakesNothingBack = true
is_known Unknown = false

-- the indexes of those of these lines of which it is known why they decide nothing
abbrev pub known_indexes : List IdleLine → List ℕ
known_indexes idle = map (λ x. x.index) (filter (λ x. is_known x.reason) idle)

-- so all of them can go at once
abbrev pub AllIdleLinesCanGo : Type 0
AllIdleLinesCanGo = (lines : List (Line Span)) (idle : List IdleLine) (s : List ℕ)
    → AreIdle lines idle → IsPath s
    → is_ignored (without (known_indexes idle) lines) s ≡ is_ignored lines s
