-- What a rule leaves of a known course, and of the forest that comes of it.
use Rattle.std.proofs.Common.{◌≡◌, ◌∙◌, ℕ, Bool, true, false, cond, List, [], ◌∷◌, ◌++◌, append_assoc, refl}
use Rattle.std.proofs.{Common.{sym, ap, subst, inl, inr}, lemmas.List.map-append}
use Rattle.wax_directory.specs.History.{Answer}
use Rattle.wax_walk.specs.Course.{ComesBelow, Course, DirectoryCall, IsFiltered, IsKnownWhole, IsStartOf}
use Rattle.wax_walk.specs.Course.{answers, asks, calls_of, continued, filtered_course, items_of, stop}
use Rattle.wax_walk.specs.Course.{unknown, yields}
use Rattle.wax_walk.specs.Forest.{Forest, filtered, followed_by, item, listings, lists, nothing, preorder}
use Rattle.wax_walk.specs.Given.{Facts, Given, Mark, alone, changed_by, cut_by, entry, fault, is_cut, kept}
use Rattle.wax_walk.specs.{Given.{no_memory, with_mark, with_tree}, Opened.{opened_by, opened_folders}}
use Rattle.wax_walk.specs.Pruned.{IsPrunedBy, Opening, all_folders, is_closed, itself, opened_forest}
use Rattle.wax_walk.specs.{Pruned.{opened_course, pruned, pruned_course, these_folders}, Ruled.IsMarkBy}

-- ---- courses

pub kept_itself : (x : Given) → x ≡ with_mark x kept
kept_itself (entry kept f) = refl
kept_itself (entry alone f) = refl
kept_itself (entry with_tree f) = refl
kept_itself (fault kind path depth) = refl
kept_itself no_memory = refl

module _ (change : Given → Given) (cut : Given → Bool) where
  abbrev pub cut_course : Course → Course
  cut_course c = filtered_course change cut c

  below_begins : (b : Bool) (c below : Course) (P : Type 0) → (P → IsStartOf below c) → ComesBelow b P below
      → IsStartOf below (cond b stop c)
  below_begins true c below P f h = h
  below_begins false c below P f h = f h

  -- what is filtered of a start of a course is a start of what is filtered of the course
  pub cut_begins : (allows : Given → Mark → Bool → Type 0)
      → ((x : Given) (m : Mark) (b : Bool) → allows x m b → (with_mark x m ≡ change x) × (b ≡ cut x))
      → (c d e : Course) → IsFiltered allows c e → IsStartOf c d → IsStartOf e (cut_course d)
  cut_begins allows same unknown d e h b = subst (λ z. IsStartOf z (cut_course d)) (sym h) tt
  cut_begins allows same stop d e h b = elim h [
    | inl i ↦ subst (λ z. IsStartOf z (cut_course d)) (sym i) tt
    | inr i ↦ subst (λ z. IsStartOf z (cut_course d)) (sym i) (ap cut_course b)
  ]
  cut_begins allows same (asks q c) d e h b = elim h [
    | inl i ↦ subst (λ z. IsStartOf z (cut_course d)) (sym i) tt
    | inr i ↦ subst (λ z. IsStartOf z (cut_course d)) (sym i.1)
        (cut_course b.0, ap cut_course b.1, cut_begins allows same c b.0 i.0 i.2 b.2)
  ]
  cut_begins allows same (yields x c a) d e h b = elim h [
    | inl i ↦ subst (λ z. IsStartOf z (cut_course d)) (sym i) tt
    | inr i ↦
        let so = same x i.0 i.1 i.2 in
        let below = below_begins i.1 (cut_course b.0) i.3 _
        (λ k. cut_begins allows same c b.0 i.3 k b.3) i.6 in
        subst (λ z. IsStartOf z (cut_course d)) (sym i.5) (
          cond i.1 stop (cut_course b.0),
          cut_course b.1,
          ap cut_course b.2
              ∙ (λ j. yields (sym so.0 j) (cond (sym so.1 j) stop (cut_course b.0)) (cut_course b.1)),
          below,
          cut_begins allows same a b.1 i.4 i.7 b.4,
        )
  ]

  whole_below : (b : Bool) (c : Course) → IsKnownWhole c → IsKnownWhole (cond b stop c)
  whole_below true c w = tt
  whole_below false c w = w

  whole_cut : (c : Course) → IsKnownWhole c → IsKnownWhole (cut_course c)
  whole_cut stop w = tt
  whole_cut unknown w = w
  whole_cut (asks q c) w = whole_cut c w
  whole_cut (yields x b a) w = (whole_below (cut x) (cut_course b) (whole_cut b w.0), whole_cut a w.1)

-- what a rule leaves of a course
abbrev pub ruled_course : (Facts → Mark) → Course → Course
ruled_course rule c = cut_course (changed_by rule) (cut_by rule) c

pub filtered_begins : (rule : Facts → Mark) (c d e : Course) → IsFiltered (IsMarkBy rule) c e → IsStartOf c d
    → IsStartOf e (ruled_course rule d)
filtered_begins rule = cut_begins (changed_by rule) (cut_by rule) (IsMarkBy rule)
    (λ x m b h. (ap (with_mark x) h.0, h.1 ∙ ap (is_cut x) h.0))

pub pruned_begins : (opens : Facts → Bool) (c d e : Course)
    → IsFiltered (IsPrunedBy opens) c e → IsStartOf c d
    → IsStartOf e (pruned_course opens d)
pruned_begins opens = cut_begins itself (is_closed opens) (IsPrunedBy opens)
    (λ x m b h. (ap (with_mark x) h.0 ∙ sym (kept_itself x), h.1))

-- ---- forests

-- these folders are listed, and then comes what is in the forest
abbrev pub lists_each : List (List ℕ) → Forest Given → Forest Given
lists_each [] f = f
lists_each (path ∷ paths) f = lists path (lists_each paths f)

-- the items of a course, and the folders that are opened for them
abbrev pub forest_of : Course → Forest Given
forest_of stop = nothing
forest_of unknown = nothing
forest_of (asks q c) = lists_each (opened_by q.answer) (forest_of c)
forest_of (yields x below after) = item x (forest_of below) (forest_of after)

preorder_each : (paths : List (List ℕ)) (f : Forest Given) → preorder (lists_each paths f) ≡ preorder f
preorder_each [] f = refl
preorder_each (path ∷ paths) f = preorder_each paths f

listings_each : (paths : List (List ℕ)) (f : Forest Given)
    → listings (lists_each paths f) ≡ paths ++ listings f
listings_each [] f = refl
listings_each (path ∷ paths) f = ap (λ z. path ∷ z) (listings_each paths f)

followed_each : (paths : List (List ℕ)) (f g : Forest Given)
    → followed_by (lists_each paths f) g ≡ lists_each paths (followed_by f g)
followed_each [] f g = refl
followed_each (path ∷ paths) f g = ap (lists path) (followed_each paths f g)

items_forest : (c : Course) → items_of c ≡ preorder (forest_of c)
items_forest stop = refl
items_forest unknown = refl
items_forest (asks q c) = items_forest c ∙ sym (preorder_each (opened_by q.answer) (forest_of c))
items_forest (yields x b a) = λ i. x ∷ (items_forest b i ++ items_forest a i)

opened_append : (xs ys : List Answer) → opened_folders (xs ++ ys) ≡ opened_folders xs ++ opened_folders ys
opened_append [] ys = refl
opened_append (x ∷ xs) ys =
    ap (λ z. opened_by x ++ z) (opened_append xs ys)
    ∙ sym (append_assoc (opened_by x) (opened_folders xs) (opened_folders ys))

opened_both : (these those : List DirectoryCall)
    → opened_folders (answers (these ++ those))
    ≡ opened_folders (answers these) ++ opened_folders (answers those)
opened_both these those =
    ap opened_folders (map-append (λ q. q.answer) these those)
    ∙ opened_append (answers these) (answers those)

-- the folders that were opened by the first calls, and then those that the other calls open
pub opened_first : (told : List Answer) (calls rest all : List DirectoryCall) → told ≡ answers calls
    → calls ++ rest ≡ all
    → opened_folders told ++ opened_folders (answers rest) ≡ opened_folders (answers all)
opened_first told calls rest all t e =
    ap (λ z. opened_folders z ++ opened_folders (answers rest)) t
    ∙ (sym (opened_both calls rest) ∙ ap (λ z. opened_folders (answers z)) e)

-- the folders that a course opens are those that its forest lists
opened_forest_of : (c : Course) → opened_folders (answers (calls_of c)) ≡ listings (forest_of c)
opened_forest_of stop = refl
opened_forest_of unknown = refl
opened_forest_of (asks q c) =
    ap (λ z. opened_by q.answer ++ z) (opened_forest_of c)
    ∙ sym (listings_each (opened_by q.answer) (forest_of c))
opened_forest_of (yields x b a) =
    opened_both (calls_of b) (calls_of a) ∙ (λ i. opened_forest_of b i ++ opened_forest_of a i)

pub forest_continued : (c d : Course) → IsKnownWhole c
    → forest_of (continued c d) ≡ followed_by (forest_of c) (forest_of d)
forest_continued stop d w = refl
forest_continued unknown d w = absurd w
forest_continued (asks q c) d w =
    ap (lists_each (opened_by q.answer)) (forest_continued c d w)
    ∙ sym (followed_each (opened_by q.answer) (forest_of c) (forest_of d))
forest_continued (yields x b a) d w = ap (item x (forest_of b)) (forest_continued a d w.1)

-- the course is known to its end, its items are those of the forest, each with the same below it, and the
-- folders that it opens are those that the forest lists, each at the same point
pub record Yields (c : Course) (f : Forest Given) : Type 0 where
  pub is_whole : IsKnownWhole c
  pub forest : forest_of c ≡ f

pub yields_items : (c : Course) (f : Forest Given) → Yields c f → items_of c ≡ preorder f
yields_items c f y = items_forest c ∙ ap preorder y.forest

pub yields_opened : (c : Course) (f : Forest Given) → Yields c f
    → opened_folders (answers (calls_of c)) ≡ listings f
yields_opened c f y = opened_forest_of c ∙ ap listings y.forest

module _ (change : Given → Given) (cut : Given → Bool) where
  abbrev cut_forest : Forest Given → Forest Given
  cut_forest f = filtered change cut f

  forest_below : (b : Bool) (c : Course) → forest_of (cond b stop c) ≡ cond b nothing (forest_of c)
  forest_below true c = refl
  forest_below false c = refl

  cut_each : (paths : List (List ℕ)) (f : Forest Given)
      → cut_forest (lists_each paths f) ≡ lists_each paths (cut_forest f)
  cut_each [] f = refl
  cut_each (path ∷ paths) f = ap (lists path) (cut_each paths f)

  forest_cut : (c : Course) → forest_of (cut_course change cut c) ≡ cut_forest (forest_of c)
  forest_cut stop = refl
  forest_cut unknown = refl
  forest_cut (asks q c) =
      ap (lists_each (opened_by q.answer)) (forest_cut c)
      ∙ sym (cut_each (opened_by q.answer) (forest_of c))
  forest_cut (yields x b a) =
      ap (λ z. item (change x) z (forest_of (cut_course change cut a)))
      (forest_below (cut x) (cut_course change cut b))
      ∙ (λ i. item (change x) (cond (cut x) nothing (forest_cut b i)) (forest_cut a i))

  -- a filter leaves of a course what it leaves of the forest
  pub cut_yields : (c : Course) (f : Forest Given) → Yields c f
      → Yields (cut_course change cut c) (cut_forest f)
  cut_yields c f y = record {
    is_whole = whole_cut change cut c y.is_whole;
    forest = forest_cut c ∙ ap cut_forest y.forest;
  }

pub ruled_yields : (rule : Facts → Mark) (c : Course) (f : Forest Given) → Yields c f
    → Yields (ruled_course rule c) (filtered (changed_by rule) (cut_by rule) f)
ruled_yields rule = cut_yields (changed_by rule) (cut_by rule)

pub opened_yields : (o : Opening) (c : Course) (f : Forest Given) → Yields c f
    → Yields (opened_course o c) (opened_forest o f)
opened_yields all_folders c f y = y
opened_yields (these_folders opens) c f y = cut_yields itself (is_closed opens) c f y

-- ---- a rule, and folders that aren't opened

closed_still : (opens : Facts → Bool) (rule : Facts → Mark) (x : Given)
    → is_closed opens (changed_by rule x) ≡ is_closed opens x
closed_still opens rule (entry m f) = refl
closed_still opens rule (fault kind path depth) = refl
closed_still opens rule no_memory = refl

cuts_swap : {F : Type 0} (none : F) (b c : Bool) (one two : F → F) (below : F)
    → one none ≡ none → two none ≡ none
    → one (two below) ≡ two (one below)
    → cond b none (one (cond c none (two below))) ≡ cond c none (two (cond b none (one below)))
cuts_swap none true true one two below e f g = refl
cuts_swap none true false one two below e f g = sym f
cuts_swap none false true one two below e f g = e
cuts_swap none false false one two below e f g = g

-- it doesn't matter which of them comes first
pub pruned_ruled : (opens : Facts → Bool) (rule : Facts → Mark) (c : Course)
    → pruned_course opens (ruled_course rule c) ≡ ruled_course rule (pruned_course opens c)
pruned_ruled opens rule stop = refl
pruned_ruled opens rule unknown = refl
pruned_ruled opens rule (asks q c) = ap (asks q) (pruned_ruled opens rule c)
pruned_ruled opens rule (yields x b a) =
    ap (λ e. yields (changed_by rule x) (cond e stop (pruned_course opens
    (cond (cut_by rule x) stop (ruled_course rule b)))) (pruned_course opens (ruled_course rule a)))
    (closed_still opens rule x)
    ∙ (λ i.
    yields (changed_by rule x) (cuts_swap stop (is_closed opens x) (cut_by rule x) (pruned_course opens)
    (ruled_course rule) b refl refl (pruned_ruled opens rule b) i) (pruned_ruled opens rule a i))

pub forest_swap : (opens : Facts → Bool) (rule : Facts → Mark) (f : Forest Given)
    → pruned opens (filtered (changed_by rule) (cut_by rule) f)
    ≡ filtered (changed_by rule) (cut_by rule) (pruned opens f)
forest_swap opens rule nothing = refl
forest_swap opens rule (lists path f) = ap (lists path) (forest_swap opens rule f)
forest_swap opens rule (item x b a) =
    let ruled = filtered (changed_by rule) (cut_by rule) in
    ap (λ e. item (changed_by rule x) (cond e nothing (pruned opens (cond (cut_by rule x) nothing (ruled b))))
    (pruned opens (ruled a))) (closed_still opens rule x)
    ∙ (λ i. item (changed_by rule x) (cuts_swap nothing (is_closed opens x) (cut_by rule x) (pruned opens)
    ruled b refl refl (forest_swap opens rule b) i) (forest_swap opens rule a i))
