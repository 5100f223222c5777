-- The entries that a glob matches and no filter excludes.
use Rattle.std.specs.Prelude.{ℕ, Bool, true, false, ◌&&◌, not, List, [], ◌∷◌, chars}
use Rattle.wax_token.specs.{Decided.means_test, Syntax.Tree}
use Rattle.wax_walk.specs.{Candidates.{Candidate, of_candidate}, Forest.{Forest, filtered}}
use Rattle.wax_walk.specs.Given.{Facts, Mark, kept, Given, entry, changed_by, cut_by}
use Rattle.wax_exclude.specs.{Ignored.{Line, is_ignored, ignore_mark}, Marks.{glob_mark, not_mark}}

-- a filter of a walk: it excludes what a pattern matches, or what a list of lines ignores
pub data Filter (A : Type 0) : Type 0 where
  not_meant : Tree A → Filter A
  not_ignored : List (Line A) → Filter A

-- what is wanted of a walk, from the root or not: what the glob matches and no filter excludes
pub record Wanted (A : Type 0) : Type 0 where
  pub rooted : Bool
  pub glob : Tree A
  pub filters : List (Filter A)

abbrev pub excludes : {A : Type 0} → Filter A → List ℕ → Bool
excludes (not_meant t) s = means_test t false false s
excludes (not_ignored lines) s = is_ignored lines s

-- none of the filters excludes the text
abbrev pub none_excludes : {A : Type 0} → List (Filter A) → List ℕ → Bool
none_excludes [] s = true
none_excludes (x ∷ filters) s = not (excludes x s) && none_excludes filters s

-- an entry that is kept, of which the test holds
abbrev pub is_kept_where : (Facts → Bool) → Given → Bool
is_kept_where test (entry kept f) = test f
is_kept_where test x = false

abbrev pub is_kept_entry : Given → Bool
is_kept_entry x = is_kept_where (λ f. true) x

abbrev pub is_wanted : {A : Type 0} → Wanted A → Given → Bool
is_wanted w x = is_kept_where (λ f. means_test w.glob false false (chars f.candidate)
    && none_excludes w.filters (chars f.candidate)) x

-- ---- filters one after another

-- what is to come after all these filters
abbrev pub stacked : List (Facts → Mark) → Forest Given → Forest Given
stacked [] f = f
stacked (rule ∷ rules) f = stacked rules (filtered (changed_by rule) (cut_by rule) f)

-- the mark of a candidate by a filter
abbrev pub filter_mark : {A : Type 0} → Filter A → Candidate → Mark
filter_mark (not_meant t) c = not_mark t c
filter_mark (not_ignored lines) c = ignore_mark lines c

abbrev pub filter_rules : {A : Type 0} → List (Filter A) → List (Facts → Mark)
filter_rules [] = []
filter_rules (x ∷ filters) = of_candidate (filter_mark x) ∷ filter_rules filters

-- the rule of the glob's walk first, and that of each filter after it
abbrev pub rules_of : {A : Type 0} → Wanted A → List (Facts → Mark)
rules_of w = of_candidate (glob_mark w.rooted w.glob) ∷ filter_rules w.filters
