-- What was answered along names is what a tree answers.
use Rattle.std.proofs.Common.{◌≡◌, ◌∙◌, ℕ, ◌+◌, ◌<◌, ◌^◌, true, false, cond, List, [], ◌∷◌, length, refl, sym}
use Rattle.std.proofs.{Common.{ap, subst, arith}, lemmas.Slice.Eq.bytes_eq-Decides}
use Rattle.std.specs.Str.{bytes_eq}
use Rattle.wax_directory.specs.{declared.directory.FileType.FileType, History.found}
use Rattle.wax_directory.specs.Shown.{IsPlain, Shown, a_folder, a_leaf, a_sealed, end, failing, folder, leaf}
use Rattle.wax_directory.specs.Shown.{missing, sealed}
use Rattle.wax_walk.specs.{Course.{Course, asks, call, stop, yields}, Given.fault}
use Rattle.wax_tree.specs.Courses.{AlongComes, FoundComes, IsNamed, along_course, is_failing, is_missing}
use Rattle.wax_tree.specs.{Courses.is_there, Follows.AreDistinctAlong}
use Rattle.wax_tree.specs.{Plain.{Location, WalkScope, item_location, one_deeper}, Prefix.ArePlain}
use Rattle.wax_tree.proofs.{Making.along_plain, Locations.onward_is}
use Rattle.wax_directory.specs.declared.directory.FileType.TheVariants as F
use Rattle.wax_walk.specs.declared.error.FaultKind.TheVariants as K

-- a folder that holds only this name, or that can't be listed if what is at the name couldn't be seen
abbrev around : List ℕ → Shown → Shown
around x (a_leaf link) = a_folder (leaf x link end)
around x (a_folder l) = a_folder (folder x l end)
around x a_sealed = a_folder (sealed x end)
around x missing = a_folder end
around x failing = a_sealed

itself : (x : List ℕ) → bytes_eq x x ≡ true
itself x = (bytes_eq-Decides x x).1 refl

named_around : (x : List ℕ) (s : Shown) → IsPlain x → IsNamed s → IsNamed (around x s)
named_around x (a_leaf link) p n = (p, tt)
named_around x (a_folder l) p n = (p, n, tt)
named_around x a_sealed p n = (p, tt)
named_around x missing p n = tt
named_around x failing p n = tt

distinct_around : (x : List ℕ) (names : List (List ℕ)) (s : Shown) → AreDistinctAlong names s
    → AreDistinctAlong (x ∷ names) (around x s)
distinct_around x names (a_leaf link) d =
    ((tt, tt), subst (λ b. AreDistinctAlong names (cond b (a_leaf link) missing)) (sym (itself x)) d)
distinct_around x names (a_folder l) d =
    ((tt, tt), subst (λ b. AreDistinctAlong names (cond b (a_folder l) missing)) (sym (itself x)) d)
distinct_around x names a_sealed d =
    ((tt, tt), subst (λ b. AreDistinctAlong names (cond b a_sealed missing)) (sym (itself x)) d)
distinct_around x names missing d = (tt, d)
distinct_around x names failing d = tt

-- without a folder nothing has to be distinct
pub distinct_missing : (names : List (List ℕ)) → AreDistinctAlong names missing
distinct_missing [] = tt
distinct_missing (x ∷ names) = tt

module _ (scope : WalkScope) where
  -- a tree of these names whose course is c
  pub record IsShown (names : List (List ℕ)) (at : Location) (c : Course) : Type 0 where
    pub shown : Shown
    pub named : IsNamed shown
    pub distinct : AreDistinctAlong names shown
    pub course : c ≡ along_course scope names at shown

  course_around : (x : List ℕ) (names : List (List ℕ)) (at : Location) (s : Shown)
      → along_course scope (x ∷ names) at (around x s)
      ≡ asks (call at.path (found at.path F.Folder))
      (along_course scope names (one_deeper (item_location at x)) s)
  course_around x names at (a_leaf link) = ap (λ b. asks (call at.path (found at.path F.Folder))
      (along_course scope names (one_deeper (item_location at x)) (cond b (a_leaf link) missing))) (itself x)
  course_around x names at (a_folder l) = ap (λ b. asks (call at.path (found at.path F.Folder))
      (along_course scope names (one_deeper (item_location at x)) (cond b (a_folder l) missing))) (itself x)
  course_around x names at a_sealed = ap (λ b. asks (call at.path (found at.path F.Folder))
      (along_course scope names (one_deeper (item_location at x)) (cond b a_sealed missing))) (itself x)
  course_around x names at missing = refl
  course_around x [] at failing = refl
  course_around x (y ∷ names) at failing = refl

  pub along_shown : (names : List (List ℕ)) (at : Location) (c : Course) → ArePlain names
      → at.depth + length names < 2 ^ 64 → AlongComes scope names at stop c → IsShown names at c
  along_shown [] at c plain fits h =
      let s = along_plain scope at stop c h in
      record { shown = s.0; named = s.1; distinct = none s.0; course = s.2 } where
        none : (s : Shown) → AreDistinctAlong [] s
        none s = tt
  along_shown (x ∷ names) at c plain fits (is_missing e) =
      record { shown = missing; named = tt; distinct = tt; course = e }
  along_shown (x ∷ names) at c plain fits (is_failing e) =
      record { shown = failing; named = tt; distinct = tt; course = e }
  along_shown (x ∷ names) at c plain fits (is_there kind d h e) =
      go (along_shown names (one_deeper (item_location at x)) d plain.1 (omega (arith, fits))) kind h e where
        leaves : (link : _) (kind : FileType) → kind ≡ cond link F.Link F.File
            → d ≡ yields (fault K.NotAFolder at.path at.depth) stop stop
            → c ≡ asks (call at.path (found at.path kind)) d → IsShown (x ∷ names) at c
        leaves true kind k h e = record {
          shown = a_leaf true;
          named = tt;
          distinct = tt;
          course = e ∙ (λ i. asks (call at.path (found at.path (k i))) (h i));
        }
        leaves false kind k h e = record {
          shown = a_leaf false;
          named = tt;
          distinct = tt;
          course = e ∙ (λ i. asks (call at.path (found at.path (k i))) (h i));
        }

        go : (AlongComes scope names (one_deeper (item_location at x)) stop d
            → IsShown names (one_deeper (item_location at x)) d)
            → (kind : FileType) → FoundComes scope (x ∷ names) at stop kind d
            → c ≡ asks (call at.path (found at.path kind)) d → IsShown (x ∷ names) at c
        go below F.Folder h e =
            let same = onward_is at x (omega (arith, fits)) in
            let rest = below (subst (λ v. AlongComes scope names v stop d) same h) in
            record {
              shown = around x rest.shown;
              named = named_around x rest.shown plain.0 rest.named;
              distinct = distinct_around x names rest.shown rest.distinct;
              course = e ∙ (ap (asks (call at.path (found at.path F.Folder))) rest.course
                  ∙ sym (course_around x names at rest.shown));
            }
        go below F.File h e = leaves false F.File refl h e
        go below F.Link h e = leaves true F.Link refl h e
