-- What was tried of a text, from left to right.
use Rattle.std.proofs.Common.{◌≡◌, Bool, true, ℕ, zero, suc, ◌+◌, ◌<◌, ◌≤◌, List, [], ◌∷◌, ◌++◌, length}
use Rattle.std.proofs.Common.{get_or, take, drop, drop-cons, Some, slice_get, refl, sym, ◌∙◌, ap, subst, inl}
use Rattle.std.proofs.{Common.{inr, arith, length-drop}, lemmas.Bool.cases_lt}
use Rattle.std.proofs.lemmas.List.{drop-drop, drop_all, length_push}
use Rattle.wax_lengths.specs.{Prefers.Prefers, Forms.TakenBy, Spans.{InSpan, IsNarrowed, IsPicked, looks}}
use Rattle.wax_lengths.specs.declared.form.Form.{Form}
use Rattle.wax_capture.specs.{Pieces.{WayOf, forms_of}, inner.Letters.ArePassed}
use Rattle.wax_capture.specs.inner.Splits.{AreChosen, FitsBy, IsChosenBy, Splits}
use Rattle.wax_capture.specs.inner.Trials.{AreLeft, HasRoom, HasTaken, IsOpen, Trail, lengths_of}
use Rattle.wax_capture.specs.{inner.Trials.characters_taken, declared.piece.Piece.Piece}
use Rattle.wax_capture.specs.declared.trial.Frame.{Frame}
use Rattle.wax_capture.proofs.{Choosing.prefers_same, Taking.chosen_splits}
use Rattle.wax_lengths.proofs.Lists.{some_same}

module _ (p : Piece) (ps : List Piece) (s : List ℕ) where
  -- nothing was opened
  pub open_fresh : (f : Frame) → f.opened ≡ 0 → f.span.end ≡ 0 → IsOpen p ps s f
  open_fresh f none end = record {
    fresh = λ _. end;
    earlier = λ k m lt. absurd (omega (arith, lt, none));
    left = λ k m e. absurd (past k e);
    sound = λ k m e. absurd (past k e);
  }
    where
      past : (k : ℕ) → k + 1 ≡ f.opened → ⊥
      past k e = omega (arith, e, none)

  -- a length was taken of those that were left
  pub open_takes : (old new : Frame) → new.opened ≡ old.opened → IsOpen p ps s old
      → IsPicked old.span new.span s p.is_lazy new.n → IsNarrowed old.span new.span s → HasTaken p ps s new
  open_takes old new same o picked narrowed = by_way old.opened refl
    where
      some : (w : ℕ) → w + 1 ≡ old.opened → HasTaken p ps s new
      some w is =
          let here = o.sound w new.n is picked.0 in
          record {
            way = w;
            is = is ∙ sym same;
            within = here.0;
            takes = here.1;
            earlier = λ k m lt. o.earlier k m (omega (arith, lt, is));
            others = λ m f. picked.1 m (o.left w m is f);
            sound = λ m h. o.sound w m is (narrowed m h);
          }

      by_way : (k : ℕ) → k ≡ old.opened → HasTaken p ps s new
      by_way zero e = absurd (omega (arith, picked.0.1, o.fresh (sym e)))
      by_way (suc w) e = some w (omega (arith, e))

  -- the further pieces don't take the rest
  pub taken_opens : (f : Frame) → HasTaken p ps s f → (Splits ps (drop f.n s) → ⊥) → IsOpen p ps s f
  taken_opens f t fails = record {
    fresh = λ e. absurd (omega (arith, e, t.is));
    earlier = λ k m lt. t.earlier k m (omega (arith, lt, t.is));
    left = λ k m e g.
        let same : k ≡ t.way = omega (arith, e, t.is) in
        let h : FitsBy p ps s t.way m = subst (λ i. FitsBy p ps s i m) same g in
        elim (t.others m h) [
          | inl n ↦ absurd (fails (subst (λ i. Splits ps (drop i s)) n h.2))
          | inr r ↦ r.0
        ];
    sound = λ k m e h.
        let same : t.way ≡ k = omega (arith, e, t.is) in
        let r = t.sound m h in
        (r.0, subst (λ i. WayOf p i (take m s)) same r.1);
  }

  -- they do
  pub taken_chosen : (f : Frame) → HasTaken p ps s f → Splits ps (drop f.n s) → IsChosenBy p ps s f.n
  taken_chosen f t so = record {
    way = t.way;
    fits = (t.within, t.takes, so);
    first = λ k m g. elim (cases_lt k t.way) [ inl lt ↦ absurd (t.earlier k m lt g) | inr ge ↦ ge ];
    best = λ m g. elim (t.others m g) [
      | inl e ↦ subst (Prefers p.is_lazy f.n) (sym e) (prefers_same p.is_lazy f.n)
      | inr r ↦ r.1
    ];
  }

  -- none of the ways before the k-th fits
  abbrev pub NoneTo : ℕ → Type 0
  NoneTo k = (j m : ℕ) → j < k → FitsBy p ps s j m → ⊥

  pub open_none : (f : Frame) → IsOpen p ps s f → ((m : ℕ) → InSpan f.span s m → ⊥) → NoneTo f.opened
  open_none f before none j m lt g = elim (cases_lt (j + 1) f.opened) [
    | inl less ↦ before.earlier j m less g
    | inr ge ↦ none m (before.left j m (omega (arith, lt, ge)) g)
  ]

  -- nor do those after it whose forms take no part of the text
  pub none_passed : (k to : ℕ) → NoneTo k → ArePassed (forms_of p.ways) k to s → NoneTo to
  none_passed k to none passed j m lt g = elim (cases_lt j k) [
    | inl less ↦ none j m less g
    | inr ge ↦
        let (form, is, takes) = g.1 in
        passed j form ge lt is m takes
  ]

  -- one more is opened
  pub opens_next : (is_last : Bool) → (is_last ≡ true → ps ≡ []) → (f : Frame) (k : ℕ) (form : Form)
      → f.opened ≡ k + 1 → NoneTo k → slice_get (forms_of p.ways) k ≡ Some form
      → AreLeft form is_last s f.span → IsOpen p ps s f
  opens_next is_last end f k form count none is lengths = record {
    fresh = λ e. absurd (omega (arith, e, count));
    earlier = λ j m lt. none j m (omega (arith, lt, count));
    left = λ j m e g.
        let same : j ≡ k = omega (arith, e, count) in
        let w : WayOf p k (take m s) = subst (λ i. WayOf p i (take m s)) same g.1 in
        lengths.fits m g.0 (subst (λ z. TakenBy z (take m s)) (some_same (sym w.1 ∙ is)) w.2)
        (λ l. whole m g.0 (subst (λ z. Splits z (drop m s)) (end l) g.2));
    sound = λ j m e h.
        let same : k ≡ j = omega (arith, e, count) in
        let r = lengths.sound m h in
        (r.0, subst (λ i. WayOf p i (take m s)) same (form, is, r.1));
  }
    where
      whole : (m : ℕ) → m ≤ length s → drop m s ≡ [] → m ≡ length s
      whole m le none = omega (arith, le, length-drop m s, ap length none)

-- ---- the pieces that have taken a part
module _ (text : List ℕ) (most : ℕ) where
  pub trail_push : (ps rest : List Piece) (p : Piece) (at : ℕ) (fs : List Frame) (f : Frame)
      → drop (length fs) ps ≡ p ∷ rest → f.at ≡ at + characters_taken fs → HasTaken p rest (drop f.at text) f
      → HasRoom text most f →
      Trail ps text most at fs → Trail ps text most at (fs ++ f ∷ [])
  trail_push [] rest p at [] f e is t room h = absurd (cc)
  trail_push (q ∷ ps) rest p at [] f e is t room h =
      let at_same : f.at ≡ at = omega (arith, is) in
      let head : p ≡ q = cc in
      let tail : rest ≡ ps = cc in (
        at_same,
        subst (λ k. HasTaken q ps (drop k text) f) at_same (subst (λ z. HasTaken z ps (drop f.at text) f) head
            (subst (λ z. HasTaken p z (drop f.at text) f) tail t)),
        room,
        tt,
      )
  trail_push [] rest p at (g ∷ fs) f e is t room h = absurd h
  trail_push (q ∷ ps) rest p at (g ∷ fs) f e is t room h =
      (h.0, h.1, h.2, trail_push ps rest p (at + g.n) fs f e (omega (arith, is)) t room h.3)

  pub record Popped (ps : List Piece) (at : ℕ) (fs : List Frame) (f : Frame) : Type 0 where
    pub trail : Trail ps text most at fs
    pub piece : Piece
    pub rest : List Piece
    pub is : drop (length fs) ps ≡ piece ∷ rest
    pub place : f.at ≡ at + characters_taken fs
    pub takes : HasTaken piece rest (drop f.at text) f
    pub room : HasRoom text most f

  pub trail_pop : (ps : List Piece) (at : ℕ) (fs : List Frame) (f : Frame)
      → Trail ps text most at (fs ++ f ∷ []) → Popped ps at fs f
  trail_pop [] at [] f h = absurd h
  trail_pop (p ∷ ps) at [] f h = record {
    trail = tt;
    piece = p;
    rest = ps;
    is = refl;
    place = omega (arith, h.0);
    takes = subst (λ k. HasTaken p ps (drop k text) f) (sym h.0) h.1;
    room = h.2;
  }
  trail_pop [] at (g ∷ fs) f h = absurd h
  trail_pop (p ∷ ps) at (g ∷ fs) f h =
      let r : Popped ps (at + g.n) fs f = trail_pop ps (at + g.n) fs f h.3 in
      record {
        trail = (h.0, h.1, h.2, r.trail);
        piece = r.piece;
        rest = r.rest;
        is = r.is;
        place = omega (arith, r.place);
        takes = r.takes;
        room = r.room;
      }

  -- all of them took the whole text
  pub trail_done : (ps : List Piece) (at : ℕ) (fs : List Frame) → length ps ≡ length fs
      → drop (at + characters_taken fs) text ≡ [] → Trail ps text most at fs
      → AreChosen ps (drop at text) (lengths_of fs)
  trail_done [] at [] count end h = let e : at + 0 ≡ at = omega arith in ap (λ k. drop k text) (sym e) ∙ end
  trail_done [] at (f ∷ fs) count end h = absurd h
  trail_done (p ∷ ps) at [] count end h = absurd (omega (arith, count))
  trail_done (p ∷ ps) at (f ∷ fs) count end h =
      let e : at + f.n + characters_taken fs ≡ at + (f.n + characters_taken fs) = omega arith in
      let later : AreChosen ps (drop (at + f.n) text) (lengths_of fs) =
      trail_done ps (at + f.n) fs (omega (arith, count)) (ap (λ k. drop k text) e ∙ end) h.3 in
      let rest : AreChosen ps (drop f.n (drop at text)) (lengths_of fs) =
      subst (λ z. AreChosen ps z (lengths_of fs)) (sym (drop-drop f.n at text)) later in (
        taken_chosen p ps (drop at text) f h.1
            (chosen_splits ps (drop f.n (drop at text)) (lengths_of fs) rest),
        rest,
      )

pub taken_push : (fs : List Frame) (f : Frame) → characters_taken (fs ++ f ∷ []) ≡ characters_taken fs + f.n
taken_push [] f = omega arith
taken_push (g ∷ fs) f = omega (arith, taken_push fs f)

pub lengths_push : (fs : List Frame) (f : Frame) → lengths_of (fs ++ f ∷ []) ≡ lengths_of fs ++ f.n ∷ []
lengths_push [] f = refl
lengths_push (g ∷ fs) f = ap (λ z. g.n ∷ z) (lengths_push fs f)

pub length-lengths : (fs : List Frame) → length (lengths_of fs) ≡ length fs
length-lengths [] = refl
length-lengths (f ∷ fs) = ap (λ n. suc n) (length-lengths fs)

pub lengths_at : (fs : List Frame) (i : ℕ) (f : Frame) → i < length fs
    → (get_or fs i f).n ≡ get_or (lengths_of fs) i (get_or fs i f).n
lengths_at [] i f lt = absurd (omega (arith, lt))
lengths_at (g ∷ fs) zero f lt = refl
lengths_at (g ∷ fs) (suc i) f lt = lengths_at fs i f (omega (arith, lt))

-- ---- the piece that is tried
pub at_piece : (ps : List Piece) (fs : List Frame) (i : ℕ) (p : Piece) → i ≡ length fs → i < length ps
    → p ≡ get_or ps i p → drop (length fs) ps ≡ p ∷ drop (length fs + 1) ps
at_piece ps fs i p same lt e =
    let m : suc i ≡ i + 1 = omega arith in
    let here : drop i ps ≡ p ∷ drop (i + 1) ps = drop-cons ps i p lt ∙ ap (λ z. z ∷ drop (suc i) ps) (sym e)
    ∙ ap (λ k. p ∷ drop k ps) m in
    subst (λ k. drop k ps ≡ p ∷ drop (k + 1) ps) same here

-- only one piece stands there
open_only : (ps : List Piece) (k : ℕ) (p : Piece) (rest : List Piece) (s : List ℕ) (f : Frame)
    → drop k ps ≡ p ∷ rest → IsOpen p rest s f →
    (q : Piece) (qs : List Piece) → drop k ps ≡ q ∷ qs → IsOpen q qs s f
open_only ps k p rest s f is starts q qs e =
    let all : p ∷ rest ≡ q ∷ qs = sym is ∙ e in
    let head : p ≡ q = cc in
    let tail : rest ≡ qs = cc in
    subst (λ z. IsOpen q z s f) tail (subst (λ z. IsOpen z rest s f) head starts)

module _ (text : List ℕ) (most : ℕ) (ps : List Piece) where
  -- the first pieces have taken parts, and the next one is tried
  pub record Stands (fs : List Frame) (f : Frame) : Type 0 where
    pub trail : Trail ps text most 0 fs
    pub place : f.at ≡ characters_taken fs
    pub tried : (p : Piece) (rest : List Piece) → drop (length fs) ps ≡ p ∷ rest
        → IsOpen p rest (drop f.at text) f
    pub room : HasRoom text most f

  -- the next one has taken a part as well
  pub record Took (fs : List Frame) (f : Frame) : Type 0 where
    pub trail : Trail ps text most 0 fs
    pub place : f.at ≡ characters_taken fs
    pub is : (p : Piece) × (drop (length fs) ps ≡ p ∷ drop (length fs + 1) ps)
        × HasTaken p (drop (length fs + 1) ps) (drop f.at text) f
    pub room : HasRoom text most f

  pub took_within : (fs : List Frame) (f : Frame) → Took fs f → f.at + f.n ≤ length text
  took_within fs f t = omega (arith, t.is.2.within, length-drop f.at text, t.room.within)

  -- it doesn't take any: the piece before it has to take another
  pub stands_pop : (below fs : List Frame) (f : Frame) (at : ℕ) (p : Piece) (rest : List Piece)
      → below ≡ fs ++ f ∷ [] → Trail ps text most 0 below → at ≡ characters_taken below
      → drop (length below) ps ≡ p ∷ rest →
      (Splits (p ∷ rest) (drop at text) → ⊥) → Stands fs f
  stands_pop below fs f at p rest same trail place is fails =
      let r : Popped text most ps 0 fs f =
      trail_pop text most ps 0 fs f (subst (Trail ps text most 0) same trail) in
      let len : length below ≡ length fs + 1 = omega (arith, ap length same, length_push fs f) in
      let next : r.rest ≡ p ∷ rest = ap (drop 1) (sym r.is) ∙ drop-drop 1 (length fs) ps
      ∙ ap (λ k. drop k ps) (sym len) ∙ is in
      let end : f.at + f.n ≡ at = omega (arith, place, ap characters_taken same, taken_push fs f, r.place) in
      let none : Splits r.rest (drop f.n (drop f.at text)) → ⊥ = λ h.
      let g : Splits (p ∷ rest) (drop f.n (drop f.at text)) =
      subst (λ z. Splits z (drop f.n (drop f.at text))) next h in
      fails (subst (Splits (p ∷ rest)) (drop-drop f.n f.at text ∙ ap (λ k. drop k text) end) g) in
      record {
        trail = r.trail;
        place = omega (arith, r.place);
        tried = open_only ps (length fs) r.piece r.rest (drop f.at text) f r.is
            (taken_opens r.piece r.rest (drop f.at text) f r.takes none);
        room = r.room;
      }

  took_trail : (fs : List Frame) (f : Frame) → Took fs f → Trail ps text most 0 (fs ++ f ∷ [])
  took_trail fs f t = trail_push text most ps (drop (length fs + 1) ps) t.is.0 0 fs f t.is.1
      (omega (arith, t.place)) t.is.2 t.room t.trail

  -- a further piece is tried
  pub stands_push : (fs : List Frame) (f new : Frame) → Took fs f → new.at ≡ f.at + f.n → new.opened ≡ 0
      → new.span.end ≡ 0 → looks new.span ≡ 0 → Stands (fs ++ f ∷ []) new
  stands_push fs f new t at opened end none = record {
    trail = took_trail fs f t;
    place = omega (arith, at, t.place, taken_push fs f);
    tried = λ q qs e. open_fresh q qs (drop new.at text) new opened end;
    room = record {
      within = omega (arith, at, took_within fs f t);
      end = omega (arith, at, end, took_within fs f t);
      few = omega (arith, none);
    };
  }

  -- the further pieces don't take the rest
  pub stands_here : (fs : List Frame) (f : Frame) → Took fs f
      → (Splits (drop (length fs + 1) ps) (drop f.n (drop f.at text)) → ⊥) → Stands fs f
  stands_here fs f t none =
      let rest : List Piece = drop (length fs + 1) ps in
      record {
        trail = t.trail;
        place = t.place;
        tried = open_only ps (length fs) t.is.0 rest (drop f.at text) f t.is.1
            (taken_opens t.is.0 rest (drop f.at text) f t.is.2 none);
        room = t.room;
      }

  -- there is none, and the text isn't at its end
  pub stands_last : (fs : List Frame) (f : Frame) → Took fs f → length ps ≤ length fs + 1
      → (f.at + f.n ≡ length text → ⊥) → Stands fs f
  stands_last fs f t last before = stands_here fs f t none
    where
      none : Splits (drop (length fs + 1) ps) (drop f.n (drop f.at text)) → ⊥
      none h =
          let nothing : drop (length fs + 1) ps ≡ [] = drop_all (length fs + 1) ps last in
          let g : drop f.n (drop f.at text) ≡ [] =
          subst (λ z. Splits z (drop f.n (drop f.at text))) nothing h in
          before (omega (
            arith,
            ap length g,
            length-drop f.n (drop f.at text),
            length-drop f.at text,
            took_within fs f t,
          ))

  -- and it is
  pub took_all : (fs : List Frame) (f : Frame) → Took fs f → length ps ≡ length fs + 1
      → f.at + f.n ≡ length text → AreChosen ps text (lengths_of fs ++ f.n ∷ [])
  took_all fs f t count end =
      let e : 0 + characters_taken (fs ++ f ∷ []) ≡ length text =
      omega (arith, taken_push fs f, t.place, end) in
      let nothing : drop (0 + characters_taken (fs ++ f ∷ [])) text ≡ [] =
      ap (λ k. drop k text) e ∙ drop_all (length text) text (omega arith) in
      subst (AreChosen ps text) (lengths_push fs f) (trail_done text most ps 0 (fs ++ f ∷ [])
      (omega (arith, count, length_push fs f)) nothing (took_trail fs f t))

-- the first piece doesn't take any
pub none_first : (text : List ℕ) (ps : List Piece) (fs : List Frame) (at : ℕ) (p : Piece) (rest : List Piece)
    → fs ≡ [] → at ≡ characters_taken fs → drop (length fs) ps ≡ p ∷ rest →
    (Splits (p ∷ rest) (drop at text) → ⊥) → Splits ps text → ⊥
none_first text ps fs at p rest none place is fails h =
    let zero_len : length fs ≡ 0 = ap length none in
    let start : at ≡ 0 = place ∙ ap characters_taken none in
    let all : ps ≡ p ∷ rest = ap (λ k. drop k ps) (sym zero_len) ∙ is in
    let g : Splits (p ∷ rest) text = subst (λ z. Splits z text) all h in
    fails (subst (λ k. Splits (p ∷ rest) (drop k text)) (sym start) g)

-- no piece is after the last one
pub after_last : (ps : List Piece) (fs : List Frame) (i : ℕ) → i ≡ length fs → i + 1 ≡ length ps
    → drop (length fs + 1) ps ≡ []
after_last ps fs i count last = drop_all (length fs + 1) ps (omega (arith, count, last))

pub at_next : (ps : List Piece) (fs : List Frame) (i : ℕ) (q : Piece) → i ≡ length fs → i + 1 < length ps
    → q ≡ get_or ps (i + 1) q → (qs : List Piece) × (drop (length fs + 1) ps ≡ q ∷ qs)
at_next ps fs i q count lt is =
    let same : i + 1 ≡ length fs + 1 = omega (arith, count) in (
      drop (suc (i + 1)) ps,
      subst (λ k. drop k ps ≡ q ∷ drop (suc (i + 1)) ps) same
          (drop-cons ps (i + 1) q lt ∙ ap (λ z. z ∷ drop (suc (i + 1)) ps) (sym is)),
    )
