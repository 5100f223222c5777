-- What programs decide about entries.
use Rattle.std.specs.Prelude.{ℕ, ◌-◌, Bool, true, ◌&&◌, nat_lt, not, if◌then◌else◌, List, [], ◌∷◌, Option}
use Rattle.std.specs.Prelude.{Some, None}
use Rattle.wax_walk.specs.{Candidates.Candidate, Given.{Mark, kept, alone, with_tree, combined_mark}}

-- ---- a glob's walk

-- each name matches the component at its position; names past the last component are free
abbrev pub leads : {C : Type 0} → (C → List ℕ → Bool) → List C → List (List ℕ) → Bool
leads decides [] names = true
leads decides (c ∷ cs) [] = true
leads decides (c ∷ cs) (n ∷ names) = decides c n && leads decides cs names

-- an entry that doesn't match is excluded by itself
abbrev pub means_mark : {P : Type 0} → (P → List ℕ → Bool) → P → Candidate → Mark
means_mark decides p c = if decides p c.text then kept else alone

-- the mark by a glob's walk, from the programs of the leading components and of the glob: if a name of the
-- entry doesn't match its component, the entry is excluded with everything below it
abbrev pub leading_mark : {C P : Type 0} → (C → List ℕ → Bool) → List C → (P → List ℕ → Bool) → P
    → Candidate → Mark
leading_mark tests cs decides p c = if leads tests cs c.names then means_mark decides p c else with_tree

-- ---- a walk without captures

-- an entry is kept if its depth is at least `least` and it matches
abbrev pub matches_from : {P : Type 0} → (P → List ℕ → Bool) → P → ℕ → Candidate → Bool
matches_from decides p least c = not (nat_lt c.depth least) && decides p c.text

-- how many more names an entry below one at this depth may have; greatest depths from 64 on set no limit
abbrev pub limit_below : ℕ → ℕ → Option ℕ
limit_below greatest depth = if nat_lt greatest 64 then Some (greatest - depth) else None

-- a folder is opened if something below it, at no more than the greatest depth, may match
abbrev pub matches_below : {P : Type 0} → (P → Option ℕ → List ℕ → Bool) → P → ℕ → Candidate → Bool
matches_below goes_on p greatest c = goes_on p (limit_below greatest c.depth) c.text

-- ---- several rules

-- the strongest mark by these rules: excluded with everything below, else excluded by itself, else kept
abbrev pub any_mark : {A : Type 0} → List (A → Mark) → A → Mark
any_mark [] x = kept
any_mark (rule ∷ rules) x = combined_mark (rule x) (any_mark rules x)
