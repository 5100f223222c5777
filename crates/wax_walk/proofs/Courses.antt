-- Courses: their parts, and what a filter leaves of them.
use Rattle.std.proofs.Common.{◌≡◌, ◌∙◌, Bool, true, false, List, [], ◌∷◌, ◌++◌, append_assoc, refl, sym, ap}
use Rattle.std.proofs.{Common.{subst, inl, inr}, lemmas.List.append-nil}
use Rattle.std.specs.Prelude.{◌⊎◌}
use Rattle.wax_walk.specs.Course.{DirectoryCall, Course, stop, unknown, asks, yields, continued, asking}
use Rattle.wax_walk.specs.Course.{items_of, calls_of, IsKnownFirst, IsKnownWhole, IsStartOf, ComesBelow}
use Rattle.wax_walk.specs.{Course.{IsFiltered, IsNothing}, Given.{Given, Mark, with_mark}}

-- ---- parts

pub begins_itself : (c : Course) → IsStartOf c c
begins_itself stop = refl
begins_itself unknown = tt
begins_itself (asks q c) = (c, refl, begins_itself c)
begins_itself (yields x b a) = (b, a, refl, begins_itself b, begins_itself a)

pub asking_then : (calls more : List DirectoryCall) (c : Course) → asking calls (asking more c)
    ≡ asking (calls ++ more) c
asking_then [] more c = refl
asking_then (q ∷ calls) more c = ap (asks q) (asking_then calls more c)

pub continued_stop : (c : Course) → continued c stop ≡ c
continued_stop stop = refl
continued_stop unknown = refl
continued_stop (asks q c) = ap (asks q) (continued_stop c)
continued_stop (yields x b a) = ap (yields x b) (continued_stop a)

pub continued_then : (c d e : Course) → continued (continued c d) e ≡ continued c (continued d e)
continued_then stop d e = refl
continued_then unknown d e = refl
continued_then (asks q c) d e = ap (asks q) (continued_then c d e)
continued_then (yields x b a) d e = ap (yields x b) (continued_then a d e)

pub begins_asking : (calls : List DirectoryCall) (c d : Course) → IsStartOf c d
    → IsStartOf (asking calls c) (asking calls d)
begins_asking [] c d h = h
begins_asking (q ∷ calls) c d h = (asking calls d, refl, begins_asking calls c d h)

-- the parts of a course that begins two
pub record BeginsBoth (b a c : Course) : Type 0 where
  pub below : Course
  pub after : Course
  pub below_begins : IsStartOf below b
  pub after_begins : IsStartOf after a
  pub whole : continued below after ≡ c

abbrev pub both : (b a c below after : Course) → IsStartOf below b → IsStartOf after a
    → continued below after ≡ c
    → BeginsBoth b a c
both b a c below after h i e =
    record { below = below; after = after; below_begins = h; after_begins = i; whole = e }

pub begins_parts : (b a c : Course) → IsStartOf c (continued b a) → BeginsBoth b a c
begins_parts stop a c h = both stop a c stop c refl h refl
begins_parts unknown a unknown h = both unknown a unknown unknown unknown tt tt refl
begins_parts unknown a stop h = absurd (let e : unknown ≡ stop = h in (cc))
begins_parts unknown a (asks q c) h = absurd (let e : unknown ≡ asks q h.0 = h.1 in (cc))
begins_parts unknown a (yields x d e) h = absurd (let e : unknown ≡ yields x h.0 h.1 = h.2 in (cc))
begins_parts (asks q b) a unknown h = both (asks q b) a unknown unknown unknown tt tt refl
begins_parts (asks q b) a stop h = absurd (let e : asks q (continued b a) ≡ stop = h in (cc))
begins_parts (asks q b) a (asks r c) h =
    let e : asks q (continued b a) ≡ asks r h.0 = h.1 in
    let same : q ≡ r = cc in
    let rest : continued b a ≡ h.0 = cc in
    let p = begins_parts b a c (subst (λ d. IsStartOf c d) (sym rest) h.2) in
    both (asks q b) a (asks r c) (asks r p.below) p.after
    (b, ap (λ z. asks z b) same, p.below_begins) p.after_begins (ap (asks r) p.whole)
begins_parts (asks q b) a (yields x d e) h =
    absurd (let e : asks q (continued b a) ≡ yields x h.0 h.1 = h.2 in (cc))
begins_parts (yields x d b) a unknown h = both (yields x d b) a unknown unknown unknown tt tt refl
begins_parts (yields x d b) a stop h = absurd (let e : yields x d (continued b a) ≡ stop = h in (cc))
begins_parts (yields x d b) a (asks r c) h =
    absurd (let e : yields x d (continued b a) ≡ asks r h.0 = h.1 in (cc))
begins_parts (yields x d b) a (yields y e c) h =
    let i : yields x d (continued b a) ≡ yields y h.0 h.1 = h.2 in
    let same : x ≡ y = cc in
    let under : d ≡ h.0 = cc in
    let rest : continued b a ≡ h.1 = cc in
    let p = begins_parts b a c (subst (λ z. IsStartOf c z) (sym rest) h.4) in
    both (yields x d b) a (yields y e c) (yields y e p.below) p.after
    (d, b, ap (λ z. yields z d b) same, subst (λ z. IsStartOf e z) (sym under) h.3, p.below_begins)
    p.after_begins (ap (yields y e) p.whole)

-- how much of two courses is known, if both are one course
pub record KnownParts (b a : Course) : Type 0 where
  pub below : Course
  pub after : Course
  pub below_begins : IsStartOf below b
  pub after_begins : IsStartOf after a
  pub items : items_of (continued b a) ≡ items_of below ++ items_of after
  pub calls : calls_of (continued b a) ≡ calls_of below ++ calls_of after
  pub whole : IsKnownWhole (continued b a) → IsKnownWhole below × IsKnownWhole after
  pub first : IsKnownFirst (continued b a) → IsKnownFirst below × IsKnownFirst after
      × (IsKnownWhole below ⊎ (after ≡ unknown))
  pub unended : continued b a ≡ unknown → (below ≡ unknown) × (after ≡ unknown)

known_known : (a : Course) → ¬ (a ≡ unknown) → KnownParts stop a
known_known a n = record {
  below = stop;
  after = a;
  below_begins = refl;
  after_begins = begins_itself a;
  items = refl;
  calls = refl;
  whole = λ w. (tt, w);
  first = λ f. (tt, f, inl tt);
  unended = λ e. absurd (n e);
}

known_unknown : (b a : Course) → continued b a ≡ unknown → KnownParts b a
known_unknown b a e = record {
  below = unknown;
  after = unknown;
  below_begins = tt;
  after_begins = tt;
  items = ap items_of e;
  calls = ap calls_of e;
  whole = λ w. absurd (subst IsKnownWhole e w);
  first = λ f. (tt, tt, inr refl);
  unended = λ i. (refl, refl);
}

pub known_parts : (b a : Course) → KnownParts b a
known_parts stop stop = known_known stop (λ e. (cc))
known_parts stop unknown = known_unknown stop unknown refl
known_parts stop (asks q c) = known_known (asks q c) (λ e. (cc))
known_parts stop (yields x c d) = known_known (yields x c d) (λ e. (cc))
known_parts unknown a = known_unknown unknown a refl
known_parts (asks q b) a = let k = known_parts b a in record {
  below = asks q k.below;
  after = k.after;
  below_begins = (b, refl, k.below_begins);
  after_begins = k.after_begins;
  items = k.items;
  calls = ap (λ z. q ∷ z) k.calls;
  whole = k.whole;
  first = k.first;
  unended = λ e. absurd (let i : asks q (continued b a) ≡ unknown = e in (cc));
}
known_parts (yields x c b) a = let k = known_parts b a in record {
  below = yields x c k.below;
  after = k.after;
  below_begins = (c, b, refl, begins_itself c, k.below_begins);
  after_begins = k.after_begins;
  items = ap (λ z. x ∷ (items_of c ++ z)) k.items
      ∙ ap (λ z. x ∷ z) (sym (append_assoc (items_of c) (items_of k.below) (items_of k.after)));
  calls = ap (λ z. calls_of c ++ z) k.calls
      ∙ sym (append_assoc (calls_of c) (calls_of k.below) (calls_of k.after));
  whole = λ w. let p = k.whole w.1 in ((w.0, p.0), p.1);
  first = λ f. let p = k.first f.1 in elim f.2 [
    | inl w ↦ ((f.0, p.0, inl w), p.1, elim p.2 [ inl v ↦ inl (w, v) | inr e ↦ inr e ])
    | inr e ↦ let o = k.unended e in ((f.0, p.0, inr o.0), p.1, inr o.1)
  ];
  unended = λ e. absurd (let i : yields x c (continued b a) ≡ unknown = e in (cc));
}

-- a whole course is all that it begins
pub begins_whole : (c d : Course) → IsKnownWhole c → IsStartOf c d → c ≡ d
begins_whole stop d w h = sym h
begins_whole unknown d w h = absurd w
begins_whole (asks q c) d w h = ap (asks q) (begins_whole c h.0 w h.2) ∙ sym h.1
begins_whole (yields x b a) d w h =
    ap (λ z. yields x z a) (begins_whole b h.0 w.0 h.3)
    ∙ (ap (yields x h.0) (begins_whole a h.1 w.1 h.4) ∙ sym h.2)

-- what is known first are the first calls and items
pub record ComesFirst (c d : Course) : Type 0 where
  pub items : List Given
  pub items_are : items_of c ++ items ≡ items_of d
  pub calls : List DirectoryCall
  pub calls_are : calls_of c ++ calls ≡ calls_of d

comes_first_parts : (x : Given) (b a e f : Course) → b ≡ e → ComesFirst a f
    → ComesFirst (yields x b a) (yields x e f)
comes_first_parts x b a e f i k = record {
  items = k.items;
  items_are = ap (λ z. x ∷ z) (append_assoc (items_of b) (items_of a) k.items
      ∙ (ap (λ z. items_of b ++ z) k.items_are ∙ ap (λ z. items_of z ++ items_of f) i));
  calls = k.calls;
  calls_are = append_assoc (calls_of b) (calls_of a) k.calls
      ∙ (ap (λ z. calls_of b ++ z) k.calls_are ∙ ap (λ z. calls_of z ++ calls_of f) i);
}

comes_first_below : (x : Given) (b a e f : Course) → a ≡ unknown → ComesFirst b e
    → ComesFirst (yields x b a) (yields x e f)
comes_first_below x b a e f i k = record {
  items = k.items ++ items_of f;
  items_are = ap (λ z. x ∷ ((items_of b ++ items_of z) ++ (k.items ++ items_of f))) i
      ∙ ap (λ z. x ∷ z) (ap (λ z. z ++ (k.items ++ items_of f)) (append-nil (items_of b))
      ∙ (sym (append_assoc (items_of b) k.items (items_of f)) ∙ ap (λ z. z ++ items_of f) k.items_are));
  calls = k.calls ++ calls_of f;
  calls_are = ap (λ z. (calls_of b ++ calls_of z) ++ (k.calls ++ calls_of f)) i
      ∙ (ap (λ z. z ++ (k.calls ++ calls_of f)) (append-nil (calls_of b))
      ∙ (sym (append_assoc (calls_of b) k.calls (calls_of f)) ∙ ap (λ z. z ++ calls_of f) k.calls_are));
}

pub comes_first : (c d : Course) → IsKnownFirst c → IsStartOf c d → ComesFirst c d
comes_first unknown d f h =
    record { items = items_of d; items_are = refl; calls = calls_of d; calls_are = refl }
comes_first stop d f h = record {
  items = [];
  items_are = sym (ap items_of h);
  calls = [];
  calls_are = sym (ap calls_of h);
}
comes_first (asks q c) d f h = let k = comes_first c h.0 f h.2 in record {
  items = k.items;
  items_are = k.items_are ∙ sym (ap items_of h.1);
  calls = k.calls;
  calls_are = ap (λ z. q ∷ z) k.calls_are ∙ sym (ap calls_of h.1);
}
comes_first (yields x b a) d f h =
    subst (ComesFirst (yields x b a)) (sym h.2) (elim f.2 [
      | inl w ↦ comes_first_parts x b a h.0 h.1 (begins_whole b h.0 w h.3) (comes_first a h.1 f.1 h.4)
      | inr e ↦ comes_first_below x b a h.0 h.1 e (comes_first b h.0 f.0 h.3)
    ])

pub begins_trans : (c d e : Course) → IsStartOf c d → IsStartOf d e → IsStartOf c e
begins_trans unknown d e h i = tt
begins_trans stop d e h i = subst (λ z. IsStartOf z e) h i
begins_trans (asks q c) d e h i =
    let j = subst (λ z. IsStartOf z e) h.1 i in (j.0, j.1, begins_trans c h.0 j.0 h.2 j.2)
begins_trans (yields x b a) d e h i =
    let j = subst (λ z. IsStartOf z e) h.2 i in
    (j.0, j.1, j.2, begins_trans b h.0 j.0 h.3 j.3, begins_trans a h.1 j.1 h.4 j.4)

pub items_asking : (calls : List DirectoryCall) (c : Course) → items_of (asking calls c) ≡ items_of c
items_asking [] c = refl
items_asking (q ∷ calls) c = items_asking calls c

pub calls_asking : (calls : List DirectoryCall) (c : Course) → calls_of (asking calls c) ≡ calls ++ calls_of c
calls_asking [] c = refl
calls_asking (q ∷ calls) c = ap (λ z. q ∷ z) (calls_asking calls c)

pub first_asking : (calls : List DirectoryCall) (c : Course) → IsKnownFirst c → IsKnownFirst (asking calls c)
first_asking [] c f = f
first_asking (q ∷ calls) c f = first_asking calls c f

pub whole_asking : (calls : List DirectoryCall) (c : Course) → IsKnownWhole c → IsKnownWhole (asking calls c)
whole_asking [] c w = w
whole_asking (q ∷ calls) c w = whole_asking calls c w

-- ---- filters

module _ (allows : Given → Mark → Bool → Type 0) where
  -- what begins a filtered course is filtered
  pub filtered_unknown : (c : Course) → IsFiltered allows c unknown
  filtered_unknown unknown = refl
  filtered_unknown stop = inl refl
  filtered_unknown (asks q c) = inl refl
  filtered_unknown (yields x b a) = inl refl

  begins_unknown : (d e : Course) → d ≡ unknown → IsStartOf e d → e ≡ unknown
  begins_unknown d unknown i h = refl
  begins_unknown d stop i h = absurd (let e : unknown ≡ stop = sym i ∙ h in (cc))
  begins_unknown d (asks q c) i h = absurd (let e : unknown ≡ asks q h.0 = sym i ∙ h.1 in (cc))
  begins_unknown d (yields x b a) i h = absurd (let e : unknown ≡ yields x h.0 h.1 = sym i ∙ h.2 in (cc))

  pub filtered_asking : (calls : List DirectoryCall) (c d : Course) → IsFiltered allows c d
      → IsFiltered allows (asking calls c) (asking calls d)
  filtered_asking [] c d h = h
  filtered_asking (q ∷ calls) c d h = inr (asking calls d, refl, filtered_asking calls c d h)

  -- the parts of what is left of two courses
  pub record FiltersBoth (b a d : Course) : Type 0 where
    pub below : Course
    pub after : Course
    pub below_filtered : IsFiltered allows b below
    pub after_filtered : IsFiltered allows a after
    pub whole : continued below after ≡ d

  both_unknown : (b a d : Course) → d ≡ unknown → FiltersBoth b a d
  both_unknown b a d e = record {
    below = unknown;
    after = unknown;
    below_filtered = filtered_unknown b;
    after_filtered = filtered_unknown a;
    whole = sym e;
  }

  pub filtered_parts : (b a d : Course) → IsFiltered allows (continued b a) d → FiltersBoth b a d
  filtered_parts stop a d h =
      record { below = stop; after = d; below_filtered = inr refl; after_filtered = h; whole = refl }
  filtered_parts unknown a d h = both_unknown unknown a d h
  filtered_parts (asks q b) a d h = elim h [
    | inl e ↦ both_unknown (asks q b) a d e
    | inr i ↦ let p = filtered_parts b a i.0 i.2 in record {
      below = asks q p.below;
      after = p.after;
      below_filtered = inr (p.below, refl, p.below_filtered);
      after_filtered = p.after_filtered;
      whole = ap (asks q) p.whole ∙ sym i.1;
    }
  ]
  filtered_parts (yields x c b) a d h = elim h [
    | inl e ↦ both_unknown (yields x c b) a d e
    | inr i ↦ let p = filtered_parts b a i.4 i.7 in record {
      below = yields (with_mark x i.0) i.3 p.below;
      after = p.after;
      below_filtered = inr (i.0, i.1, i.2, i.3, p.below, refl, i.6, p.below_filtered);
      after_filtered = p.after_filtered;
      whole = ap (yields (with_mark x i.0) i.3) p.whole ∙ sym i.5;
    }
  ]

  below_begun : (cut : Bool) (P Q : Type 0) (b e : Course) → (P → Q) → (IsNothing b → IsNothing e)
      → ComesBelow cut P b → ComesBelow cut Q e
  below_begun true P Q b e f n h = n h
  below_begun false P Q b e f n h = f h

  nothing_begun : (b e : Course) → IsStartOf e b → IsNothing b → IsNothing e
  nothing_begun b unknown h n = tt
  nothing_begun stop stop h n = refl
  nothing_begun stop (asks q e) h n = absurd (let i : stop ≡ asks q h.0 = h.1 in (cc))
  nothing_begun stop (yields x d e) h n = absurd (let i : stop ≡ yields x h.0 h.1 = h.2 in (cc))
  nothing_begun unknown e h n = subst IsNothing (sym (begins_unknown unknown e refl h)) tt
  nothing_begun (asks q b) e h n = absurd (let i : stop ≡ asks q n.0 = n.1 in (cc))
  nothing_begun (yields x d b) e h n = absurd (let i : stop ≡ yields x n.0 n.1 = n.2 in (cc))

  pub filtered_begun : (c d e : Course) → IsFiltered allows c d → IsStartOf e d → IsFiltered allows c e
  filtered_begun c d unknown h b = filtered_unknown c
  filtered_begun unknown d e h b = begins_unknown d e h b
  filtered_begun stop d e h b = elim h [
    | inl i ↦ inl (begins_unknown d e i b)
    | inr i ↦ stops d e i b
  ] where
    stops : (d e : Course) → d ≡ stop → IsStartOf e d → (e ≡ unknown) ⊎ (e ≡ stop)
    stops d unknown i b = inl refl
    stops d stop i b = inr refl
    stops d (asks q c) i b = absurd (let e : stop ≡ asks q b.0 = sym i ∙ b.1 in (cc))
    stops d (yields x c a) i b = absurd (let e : stop ≡ yields x b.0 b.1 = sym i ∙ b.2 in (cc))
  filtered_begun (asks q c) d stop h b = elim h [
    | inl i ↦ inl (begins_unknown d stop i b)
    | inr i ↦ absurd (let e : stop ≡ asks q i.0 = sym b ∙ i.1 in (cc))
  ]
  filtered_begun (asks q c) d (asks r e) h b = elim h [
    | inl i ↦ inl (begins_unknown d (asks r e) i b)
    | inr i ↦
        let j : asks q i.0 ≡ asks r b.0 = sym i.1 ∙ b.1 in
        let same : r ≡ q = cc in
        let rest : b.0 ≡ i.0 = cc in
        inr (e, ap (λ z. asks z e) same, filtered_begun c i.0 e i.2 (subst (λ z. IsStartOf e z) rest b.2))
  ]
  filtered_begun (asks q c) d (yields x e f) h b = elim h [
    | inl i ↦ inl (begins_unknown d (yields x e f) i b)
    | inr i ↦ absurd (let j : asks q i.0 ≡ yields x b.0 b.1 = sym i.1 ∙ b.2 in (cc))
  ]
  filtered_begun (yields x c a) d stop h b = elim h [
    | inl i ↦ inl (begins_unknown d stop i b)
    | inr i ↦ absurd (let e : stop ≡ yields (with_mark x i.0) i.3 i.4 = sym b ∙ i.5 in (cc))
  ]
  filtered_begun (yields x c a) d (asks r e) h b = elim h [
    | inl i ↦ inl (begins_unknown d (asks r e) i b)
    | inr i ↦ absurd (let e : asks r b.0 ≡ yields (with_mark x i.0) i.3 i.4 = sym b.1 ∙ i.5 in (cc))
  ]
  filtered_begun (yields x c a) d (yields y e f) h b = elim h [
    | inl i ↦ inl (begins_unknown d (yields y e f) i b)
    | inr i ↦
        let j : yields (with_mark x i.0) i.3 i.4 ≡ yields y b.0 b.1 = sym i.5 ∙ b.2 in
        let same : y ≡ with_mark x i.0 = cc in
        let under : b.0 ≡ i.3 = cc in
        let rest : b.1 ≡ i.4 = cc in
        let be : IsStartOf e i.3 = subst (λ z. IsStartOf e z) under b.3 in
        inr (
          i.0,
          i.1,
          i.2,
          e,
          f,
          ap (λ z. yields z e f) same,
          below_begun i.1 (IsFiltered allows c i.3) (IsFiltered allows c e) i.3 e
              (λ k. filtered_begun c i.3 e k be) (nothing_begun i.3 e be) i.6,
          filtered_begun a i.4 f i.7 (subst (λ z. IsStartOf f z) rest b.4),
        )
  ]

-- fewer marks are allowed
below_widened : (cut : Bool) (P Q : Type 0) (b : Course) → (P → Q) → ComesBelow cut P b → ComesBelow cut Q b
below_widened true P Q b f h = h
below_widened false P Q b f h = f h

pub filtered_widened : (these those : Given → Mark → Bool → Type 0)
    → ((x : Given) (m : Mark) (cut : Bool) → these x m cut → those x m cut)
    → (c d : Course) → IsFiltered these c d → IsFiltered those c d
filtered_widened these those w unknown d h = h
filtered_widened these those w stop d h = h
filtered_widened these those w (asks q c) d h = elim h [
  | inl e ↦ inl e
  | inr i ↦ inr (i.0, i.1, filtered_widened these those w c i.0 i.2)
]
filtered_widened these those w (yields x c a) d h = elim h [
  | inl e ↦ inl e
  | inr i ↦ inr (
    i.0,
    i.1,
    w x i.0 i.1 i.2,
    i.3,
    i.4,
    i.5,
    below_widened i.1 _ _ i.3 (filtered_widened these those w c i.3) i.6,
    filtered_widened these those w a i.4 i.7,
  )
]
