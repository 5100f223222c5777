-- The course of what a loop has taken of a walk.
use Rattle.std.proofs.Common.{◌≡◌, ◌∙◌, List, [], ◌∷◌, ◌++◌, append_assoc, refl, sym, ap, subst, inl, inr}
use Rattle.std.proofs.{Common.{◌+◌, arith}, lemmas.List.{append-nil, map-append}}
use Rattle.std.specs.Prelude.{◌⊎◌, Some, None}
use Rattle.wax_directory.specs.History.{Answer}
use Rattle.wax_walk.specs.Collected.{TookCourse, whole, cut_short}
use Rattle.wax_walk.specs.Course.{Ahead, IsStartOf, DirectoryCall, Course, CutsShort, IsKnownFirst}
use Rattle.wax_walk.specs.Course.{IsKnownWhole, all_ahead, answers, asking, calls_of, items_of, stop, unknown}
use Rattle.wax_walk.specs.{Course.yields, Given.{Given, entry, fault, no_memory}}
use Rattle.wax_walk.specs.Opened.{item_by, items_listed}
use Rattle.wax_walk.specs.View.{WalkView, Follows, MayTake, went_on, ended_so, was_cut}
use Rattle.wax_walk.proofs.Courses.{calls_asking, first_asking, items_asking, known_parts, whole_asking}
use Rattle.wax_walk.specs.declared.error.FaultKind.TheVariants as F

-- a course of the walk that goes on as c after these calls and items
pub record GoesOnAs {D : Type 0} (walk : WalkView D) (calls : List DirectoryCall) (xs : List Given)
    (c : Course) : Type 0 where
  pub course : Course
  pub takes : MayTake walk course
  pub whole : IsKnownWhole c → IsKnownWhole course
  pub first : IsKnownFirst c → IsKnownFirst course
  pub calls_are : calls_of course ≡ calls ++ calls_of c
  pub items_are : items_of course ≡ xs ++ items_of c

-- after these calls and items, whatever course the walk may take now goes on one that it could take
-- before; or an error cut that short
pub data TakingCourse {D : Type 0} (walk now : WalkView D) (calls : List DirectoryCall)
    (xs : List Given) : Type 0 where
  going : ((c : Course) → MayTake now c → GoesOnAs walk calls xs c) → TakingCourse walk now calls xs
  cut_off : (c : Course) (x : Given) → MayTake walk c → IsKnownFirst c → calls ≡ calls_of c
      → xs ≡ items_of c ++ x ∷ []
      → CutsShort calls x → now.has_ended → now.is_idle → TakingCourse walk now calls xs

pub course_none : {D : Type 0} (walk : WalkView D) → TakingCourse walk walk [] []
course_none walk = going (λ c t. record {
  course = c;
  takes = t;
  whole = λ w. w;
  first = λ f. f;
  calls_are = refl;
  items_are = refl;
})

pub answered_more : {D : Type 0} (answered : D → List Answer) (walk mid new : D)
    (before calls : List DirectoryCall)
    → answered mid ≡ answered walk ++ answers before → answered new ≡ answered mid ++ answers calls
    → answered new ≡ answered walk ++ answers (before ++ calls)
answered_more answered walk mid new before calls h i =
    i ∙ (ap (λ z. z ++ answers calls) h ∙ (append_assoc (answered walk) (answers before) (answers calls)
    ∙ ap (λ z. answered walk ++ z) (sym (map-append (λ q. q.answer) before calls))))

-- the items that two lists of calls returned
pub listed_more : (calls more : List DirectoryCall)
    → items_listed (answers (calls ++ more)) ≡ items_listed (answers calls) + items_listed (answers more)
listed_more [] more = omega arith
listed_more (q ∷ calls) more =
    let e = listed_more calls more in
    let all : items_listed (answers ((q ∷ calls) ++ more))
    ≡ item_by q.answer + items_listed (answers (calls ++ more)) = refl in
    let first : items_listed (answers (q ∷ calls))
    ≡ item_by q.answer + items_listed (answers calls) = refl in
    omega (arith, e, all, first)

-- calls that went before
pub cuts_later : (before calls : List DirectoryCall) (x : Given) → CutsShort calls x
    → CutsShort (before ++ calls) x
cuts_later before calls no_memory s = tt
cuts_later before calls (entry m f) s = absurd s
cuts_later before calls (fault F.NotFound path depth) s = absurd s
cuts_later before calls (fault F.NotAFolder path depth) s = absurd s
cuts_later before calls (fault F.Listing path depth) s = absurd s
cuts_later before calls (fault F.BadName path depth) s = absurd s
cuts_later before calls (fault F.NotText path depth) s = absurd s
cuts_later before calls (fault F.Budget path depth) s =
    (before ++ s.0, s.1, ap (λ z. before ++ z) s.2 ∙ sym (append_assoc before s.0 _))

module _ {D : Type 0} (walk mid new : WalkView D) (before calls : List DirectoryCall) (xs : List Given) where
  -- after more calls
  after_calls : (c : Course) → GoesOnAs walk before xs (asking calls c) → GoesOnAs walk (before ++ calls) xs c
  after_calls c g = record {
    course = g.course;
    takes = g.takes;
    whole = λ w. g.whole (whole_asking calls c w);
    first = λ f. g.first (first_asking calls c f);
    calls_are = g.calls_are ∙ (ap (λ z. before ++ z) (calls_asking calls c)
        ∙ sym (append_assoc before calls (calls_of c)));
    items_are = g.items_are ∙ ap (λ z. xs ++ z) (items_asking calls c);
  }

  -- after an item
  after_item : (x : Given) (a : Ahead) (c : Course) → all_ahead a ≡ c
      → ((d : Course) → IsStartOf d (yields x a.below a.after) → GoesOnAs walk (before ++ calls) xs d)
      → GoesOnAs walk (before ++ calls) (xs ++ x ∷ []) c
  after_item x a c e f = subst (GoesOnAs walk (before ++ calls) (xs ++ x ∷ [])) e (
      let k = known_parts a.below a.after in
      let d = yields x k.below k.after in
      let g = f d (a.below, a.after, refl, k.below_begins, k.after_begins) in record {
        course = g.course;
        takes = g.takes;
        whole = λ w. g.whole (k.whole w);
        first = λ w. g.first (k.first w);
        calls_are = g.calls_are ∙ ap (λ z. (before ++ calls) ++ z) (sym k.calls);
        items_are = g.items_are ∙ (sym (append_assoc xs (x ∷ []) (items_of k.below ++ items_of k.after))
            ∙ ap (λ z. (xs ++ x ∷ []) ++ z) (sym k.items));
      })

  pub course_more : (x : Given) → ¬ mid.has_ended → MayTake mid (asking calls unknown)
      → Follows mid calls (Some x) new → TakingCourse walk mid before xs
      → TakingCourse walk new (before ++ calls) (xs ++ x ∷ [])
  course_more x n b (went_on z e k) (going g) = going (λ c t.
      let same : z ≡ x = cc in
      after_item x t.0 c t.2 (λ d h.
      let i : IsStartOf d (yields z t.0.below t.0.after) =
      subst (λ u. IsStartOf d (yields u t.0.below t.0.after)) (sym same) h in
      after_calls d (g (asking calls d) (k t.0 d t.1 i))))
  course_more x n b (ended_so e t) h = absurd (let i : Some x ≡ None = e in (cc))
  course_more x n b (was_cut z e s ended idle) (going g) =
      let same : z ≡ x = cc in
      let r = after_calls unknown (g (asking calls unknown) b) in
      cut_off r.course x r.takes (r.first tt) (sym (r.calls_are ∙ append-nil (before ++ calls)))
      (ap (λ u. u ++ x ∷ []) (sym (r.items_are ∙ append-nil xs)))
      (cuts_later before calls x (subst (CutsShort calls) same s)) ended idle
  course_more x n b f (cut_off c y t l i j s ended idle) = absurd (n ended)

  pub course_end : (answered : D → List Answer)
      → answered mid.directory ≡ answered walk.directory ++ answers before
      → answered new.directory ≡ answered mid.directory ++ answers calls
      → (mid.is_idle → new.directory ≡ mid.directory) → Follows mid calls None new
      → TakingCourse walk mid before xs
      → (told : List Answer) × (answered new.directory ≡ answered walk.directory ++ told)
      × TookCourse walk told xs × ((told ≡ answers (before ++ calls)) ⊎ (told ≡ answers before))
  course_end answered h i idle (went_on z e k) (going g) = absurd (let j : None ≡ Some z = e in (cc))
  course_end answered h i idle (ended_so e t) (going g) =
      let r = after_calls stop (g (asking calls stop) t) in (
        answers (before ++ calls),
        answered_more answered walk.directory mid.directory new.directory before calls h i,
        whole r.course r.takes (r.whole tt)
            (ap answers (sym (r.calls_are ∙ append-nil (before ++ calls))))
            (sym (r.items_are ∙ append-nil xs)),
        inl refl,
      )
  course_end answered h i idle (was_cut z e s ended idle') (going g) =
      absurd (let j : None ≡ Some z = e in (cc))
  course_end answered h i idle f (cut_off c x t l j k s ended still) = (
    answers before,
    ap answered (idle still) ∙ h,
    cut_short c x t l (ap answers j) k (subst (λ z. CutsShort z x) j s),
    inr refl,
  )
