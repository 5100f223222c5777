-- The words of walks.
use Rattle.std.proofs.Common.{◌≡◌, ℕ, ◌+◌, ◌≤◌, Bool, true, false, List, [], ◌∷◌, ◌++◌, length, length-append}
use Rattle.std.proofs.Common.{get_or, Option, Some, None, inl, inr, refl, sym, ap, subst, ◌∙◌, append_assoc}
use Rattle.std.proofs.{Common.arith, lemmas.Grind.flat_map-append}
use Rattle.std.specs.{List.flat_map, Prelude.{◌↔◌, IfNone, String, string_bytes, codes, slice_get}}
use Rattle.wax_command_line.specs.Commands.{WalkOption, excluding, ignoring, at_least, at_most, IsOption}
use Rattle.wax_command_line.specs.Commands.{SayEach, least_of, greatest_of, list_of, leasts_in, greatests_in}
use Rattle.wax_command_line.specs.Commands.{count_lists, AreBounds, SaysWalk, AsksWalk, WalkRequest}
use Rattle.wax_command_line.specs.WalkArguments.{HasNoNext, IsNext}
use Rattle.wax_command_line.specs.inner.OptionWords.{AreDoubled, AreMore, AreSaidBy, all_in, one_if}
use Rattle.wax_command_line.specs.inner.OptionWords.{IsFirstWord, IsDoubled}
use Rattle.wax_command_line.specs.declared.walk_words.OptionWords.{OptionWords}

-- ---- an option is known by its words

letter : {x y : List ℕ} (k : ℕ) → x ≡ y → get_or x k 0 ≡ get_or y k 0
letter k e = ap (λ v. get_or v k 0) e

pub same_option : (name word : List ℕ) (o u : WalkOption) → IsOption name word o
    → IsOption name word u → o ≡ u
same_option name word (excluding e) (excluding f) h k = ap excluding (h.1 ∙ sym k.1)
same_option name word (excluding e) (ignoring f) h k = let d : 110 ≡ 105 = letter 0 (sym h.0 ∙ k.0) in
    absurd (omega (arith, d))
same_option name word (excluding e) (at_least n) h k = let d : 110 ≡ 109 = letter 0 (sym h.0 ∙ k.0) in
    absurd (omega (arith, d))
same_option name word (excluding e) (at_most n) h k = let d : 110 ≡ 109 = letter 0 (sym h.0 ∙ k.0) in
    absurd (omega (arith, d))
same_option name word (ignoring e) (excluding f) h k = let d : 105 ≡ 110 = letter 0 (sym h.0 ∙ k.0) in
    absurd (omega (arith, d))
same_option name word (ignoring e) (ignoring f) h k = ap ignoring (h.1 ∙ sym k.1)
same_option name word (ignoring e) (at_least n) h k = let d : 105 ≡ 109 = letter 0 (sym h.0 ∙ k.0) in
    absurd (omega (arith, d))
same_option name word (ignoring e) (at_most n) h k = let d : 105 ≡ 109 = letter 0 (sym h.0 ∙ k.0) in
    absurd (omega (arith, d))
same_option name word (at_least m) (excluding f) h k = let d : 109 ≡ 110 = letter 0 (sym h.0 ∙ k.0) in
    absurd (omega (arith, d))
same_option name word (at_least m) (ignoring f) h k = let d : 109 ≡ 105 = letter 0 (sym h.0 ∙ k.0) in
    absurd (omega (arith, d))
same_option name word (at_least m) (at_least n) h k = ap at_least (h.1.1 ∙ sym k.1.1)
same_option name word (at_least m) (at_most n) h k = let d : 105 ≡ 97 = letter 1 (sym h.0 ∙ k.0) in
    absurd (omega (arith, d))
same_option name word (at_most m) (excluding f) h k = let d : 109 ≡ 110 = letter 0 (sym h.0 ∙ k.0) in
    absurd (omega (arith, d))
same_option name word (at_most m) (ignoring f) h k = let d : 109 ≡ 105 = letter 0 (sym h.0 ∙ k.0) in
    absurd (omega (arith, d))
same_option name word (at_most m) (at_least n) h k = let d : 97 ≡ 105 = letter 1 (sym h.0 ∙ k.0) in
    absurd (omega (arith, d))
same_option name word (at_most m) (at_most n) h k = ap at_most (h.1.1 ∙ sym k.1.1)

pub same_options : {A : Type 0} (words : List (Option (String A))) (os us : List WalkOption)
    → SayEach words os → SayEach words us → os ≡ us
same_options [] [] [] h k = refl
same_options [] [] (u ∷ us) h k = absurd k
same_options [] (o ∷ os) us h k = absurd h
same_options (None ∷ words) os us h k = absurd h
same_options (Some name ∷ []) os us h k = absurd h
same_options (Some name ∷ None ∷ words) os us h k = absurd h
same_options (Some name ∷ Some word ∷ words) [] us h k = absurd h
same_options (Some name ∷ Some word ∷ words) (o ∷ os) [] h k = absurd k
same_options (Some name ∷ Some word ∷ words) (o ∷ os) (u ∷ us) h k =
    let e = same_option (string_bytes name) (string_bytes word) o u h.0 k.0 in
    let f = same_options words os us h.1 k.1 in
    λ i. e i ∷ f i

pub same_walk : {A : Type 0} (words : List (Option (String A))) (a b : WalkRequest) → AsksWalk words a
    → AsksWalk words b → a ≡ b
same_walk [] a b h k = absurd h.says
same_walk (None ∷ words) a b h k = absurd h.says
same_walk (Some x ∷ []) a b h k = absurd h.says
same_walk (Some x ∷ None ∷ words) a b h k = absurd h.says
same_walk (Some x ∷ Some y ∷ []) a b h k = absurd h.says
same_walk (Some x ∷ Some y ∷ None ∷ words) a b h k = absurd h.says
same_walk (Some x ∷ Some y ∷ Some z ∷ words) a b h k =
    let s = h.says in
    let t = k.says in
    let start = s.1 ∙ sym t.1 in
    let expression = s.2 ∙ sym t.2 in
    let options = same_options words a.options b.options s.3 t.3 in
    λ i. record { start = start i; expression = expression i; options = options i }

-- ---- options one after another

pub leasts_more : (os us : List WalkOption) → leasts_in (os ++ us) ≡ leasts_in os ++ leasts_in us
leasts_more os us = flat_map-append least_of os us

pub greatests_more : (os us : List WalkOption) → greatests_in (os ++ us) ≡ greatests_in os ++ greatests_in us
greatests_more os us = flat_map-append greatest_of os us

pub lists_more : (os us : List WalkOption) → count_lists (os ++ us) ≡ count_lists os + count_lists us
lists_more os us = ap length (flat_map-append list_of os us)
    ∙ length-append (flat_map list_of os) (flat_map list_of us)

-- the words say these options, and then what the rest says
pub record Begins {A : Type 0} (words rest : List (Option (String A))) (done : List WalkOption) : Type 0 where
  pub whole : (os : List WalkOption) → SayEach rest os → SayEach words (done ++ os)
  pub parts : (os : List WalkOption) → SayEach words os → (us : List WalkOption)
      × SayEach rest us × (os ≡ done ++ us)

pub begins_none : {A : Type 0} (words : List (Option (String A))) → Begins words words []
begins_none words = record { whole = λ os h. h; parts = λ os h. (os, h, refl) }

-- the next two arguments spell the first option that is left
pub next_says : {A : Type 0} (words rest : List (Option (String A))) (us : List WalkOption) (o : WalkOption)
    → IsNext words o rest → SayEach words us → (vs : List WalkOption) × SayEach rest vs × (us ≡ o ∷ vs)
next_says [] rest us o n k = absurd n
next_says (None ∷ words) rest us o n k = absurd n
next_says (Some x ∷ []) rest us o n k = absurd n
next_says (Some x ∷ None ∷ words) rest us o n k = absurd n
next_says (Some x ∷ Some y ∷ words) rest [] o n k = absurd k
next_says (Some x ∷ Some y ∷ words) rest (u ∷ us) o n k =
    let same = same_option (string_bytes x) (string_bytes y) u o k.0 n.0 in
    (us, subst (λ ws. SayEach ws us) (sym n.1) k.1, ap (λ v. v ∷ us) same)

begins_parts : {A : Type 0} (words rest : List (Option (String A))) (done us : List WalkOption)
    (o : WalkOption) → IsNext words o rest → SayEach words us
    → (vs : List WalkOption) × SayEach rest vs × (done ++ us ≡ (done ++ o ∷ []) ++ vs)
begins_parts words rest done us o n k =
    let next = next_says words rest us o n k in
    (next.0, next.1, ap (λ v. done ++ v) next.2 ∙ sym (append_assoc done (o ∷ []) next.0))

next_whole : {A : Type 0} (words rest : List (Option (String A))) (os : List WalkOption) (o : WalkOption)
    → IsNext words o rest → SayEach rest os → SayEach words (o ∷ os)
next_whole [] rest os o n k = absurd n
next_whole (None ∷ words) rest os o n k = absurd n
next_whole (Some x ∷ []) rest os o n k = absurd n
next_whole (Some x ∷ None ∷ words) rest os o n k = absurd n
next_whole (Some x ∷ Some y ∷ words) rest os o n k = (n.0, subst (λ ws. SayEach ws os) n.1 k)

pub begins_more : {A : Type 0} (words now rest : List (Option (String A)))
    (done : List WalkOption) (o : WalkOption)
    → Begins words now done → IsNext now o rest → Begins words rest (done ++ o ∷ [])
begins_more words now rest done o h n = record {
  whole = λ os l. subst (SayEach words) (sym (append_assoc done (o ∷ []) os))
      (h.whole (o ∷ os) (next_whole now rest os o n l));
  parts = λ os l.
      let p = h.parts os l in
      let q = begins_parts now rest done p.0 o n p.1 in
      (q.0, q.1, p.2 ∙ q.2);
}

-- arguments that begin with no option spell options only if there are none
pub says_none : {A : Type 0} (words : List (Option (String A))) (us : List WalkOption) → HasNoNext words
    → SayEach words us → words ≡ []
says_none [] us n k = refl
says_none (None ∷ words) us n k = absurd k
says_none (Some x ∷ []) us n k = absurd k
says_none (Some x ∷ None ∷ words) us n k = absurd k
says_none (Some x ∷ Some y ∷ words) [] n k = absurd k
says_none (Some x ∷ Some y ∷ words) (u ∷ us) n k = absurd (n u words (k.0, refl))

-- ---- the words of a walk

module _ {A : Type 0} (options : List (Option (String A))) (command start expression : List ℕ)
    (asked : WalkRequest) where
  -- what is said of the first three words, and of the others
  abbrev pub AreSaid : Type 0
  AreSaid = (command ≡ codes "walk") × (asked.start ≡ start) × (asked.expression ≡ expression)
      × SayEach options asked.options

  said_all : (x y z : String A) (others : List (Option (String A))) → string_bytes x ≡ command
      → string_bytes y ≡ start → string_bytes z ≡ expression → options ≡ others
      → AreSaid → SaysWalk (Some x ∷ Some y ∷ Some z ∷ others) asked
  said_all x y z others f g h e k =
      (f ∙ k.0, k.1 ∙ sym g, k.2 ∙ sym h, subst (λ us. SayEach us asked.options) e k.3)

  all_said : (x y z : String A) (others : List (Option (String A))) → string_bytes x ≡ command
      → string_bytes y ≡ start → string_bytes z ≡ expression → options ≡ others
      → SaysWalk (Some x ∷ Some y ∷ Some z ∷ others) asked → AreSaid
  all_said x y z others f g h e k =
      (sym f ∙ k.0, k.1 ∙ g, k.2 ∙ h, subst (λ us. SayEach us asked.options) (sym e) k.3)

  third : (x y : String A) (rest : List (Option (String A))) → string_bytes x ≡ command
      → string_bytes y ≡ start → IsFirstWord rest expression options
      → SaysWalk (Some x ∷ Some y ∷ rest) asked ↔ AreSaid
  third x y [] f g h = absurd h
  third x y (None ∷ rest) f g h = absurd h
  third x y (Some z ∷ rest) f g h = (all_said x y z rest f g h.0 h.1, said_all x y z rest f g h.0 h.1)

  second : (x : String A) (after rest : List (Option (String A))) → string_bytes x ≡ command
      → IsFirstWord after start rest → IsFirstWord rest expression options
      → SaysWalk (Some x ∷ after) asked ↔ AreSaid
  second x [] rest f g h = absurd g
  second x (None ∷ after) rest f g h = absurd g
  second x (Some y ∷ after) rest f g h =
      third x y after f g.0 (subst (λ ws. IsFirstWord ws expression options) g.1 h)

  -- a walk is said by its first three words and its options
  pub says_walk : (words after rest : List (Option (String A))) → IsFirstWord words command after
      → IsFirstWord after start rest → IsFirstWord rest expression options
      → SaysWalk words asked ↔ AreSaid
  says_walk [] after rest f g h = absurd f
  says_walk (None ∷ words) after rest f g h = absurd f
  says_walk (Some x ∷ words) after rest f g h =
      second x words rest f.0 (subst (λ ws. IsFirstWord ws start rest) f.1 g) h

-- if P holds, it holds if there is nothing
pub none_holds : {B : Type 0} {P : Type 0} (r : Option B) → P → IfNone r P
none_holds (Some x) p = tt
none_holds None p = p

-- ---- bounds

not_longer : (xs ys : List ℕ) (n : ℕ) → IsDoubled xs ys n → length xs ≤ 1 → length ys ≤ 1 → n ≤ 1 → ⊥
not_longer xs ys n d l g c = elim d [
  | inl e ↦ omega (arith, e, l)
  | inr e ↦ elim e [ inl f ↦ omega (arith, f, g) | inr f ↦ omega (arith, f, c) ]
]

pub doubled : (xs ys : List ℕ) (n : ℕ) → IsDoubled xs ys n → AreBounds xs ys → n ≤ 1 → ⊥
doubled [] [] n d b c = not_longer [] [] n d (omega arith) (omega arith) c
doubled (m ∷ []) [] n d b c = not_longer (m ∷ []) [] n d (omega arith) (omega arith) c
doubled [] (k ∷ []) n d b c = not_longer [] (k ∷ []) n d (omega arith) (omega arith) c
doubled (m ∷ []) (k ∷ []) n d b c = not_longer (m ∷ []) (k ∷ []) n d (omega arith) (omega arith) c
doubled (m ∷ k ∷ xs) ys n d b c = absurd b
doubled [] (m ∷ k ∷ ys) n d b c = absurd b
doubled (p ∷ []) (m ∷ k ∷ ys) n d b c = absurd b

longer : (front os : List ℕ) (xs : List ℕ) → 2 ≤ length (front ++ os) → 2 ≤ length ((front ++ os) ++ xs)
longer front os xs h = let e = length-append (front ++ os) xs in omega (arith, e, h)

-- an option that occurs again occurs twice
pub doubled_so_far : (front : List WalkOption) (o : WalkOption) (rest : List WalkOption)
    → IsDoubled (leasts_in front ++ leasts_in (o ∷ [])) (greatests_in front ++ greatests_in (o ∷ []))
    (count_lists front + count_lists (o ∷ []))
    → AreDoubled (front ++ o ∷ rest)
doubled_so_far front o rest d =
    let e = append_assoc front (o ∷ []) rest in
    let l = leasts_more (front ++ o ∷ []) rest ∙ ap (λ v. v ++ leasts_in rest) (leasts_more front (o ∷ [])) in
    let g = greatests_more (front ++ o ∷ []) rest
    ∙ ap (λ v. v ++ greatests_in rest) (greatests_more front (o ∷ [])) in
    let c = lists_more (front ++ o ∷ []) rest in
    let a = lists_more front (o ∷ []) in
    subst AreDoubled e (elim d [
      | inl h ↦ inl (subst (λ v. 2 ≤ length v) (sym l)
          (longer (leasts_in front) (leasts_in (o ∷ [])) (leasts_in rest) h))
      | inr k ↦ elim k [
        | inl h ↦ inr (inl (subst (λ v. 2 ≤ length v) (sym g)
            (longer (greatests_in front) (greatests_in (o ∷ [])) (greatests_in rest) h)))
        | inr h ↦ inr (inr (omega (arith, h, a, c)))
      ]
    ])

pub said_more : (bounds more : OptionWords) (front : List WalkOption) (o : WalkOption)
    → AreSaidBy bounds front → AreMore bounds o more → AreSaidBy more (front ++ o ∷ [])
said_more bounds more front o h m = record {
  least = leasts_more front (o ∷ []) ∙ (ap (λ v. v ++ leasts_in (o ∷ [])) h.least ∙ sym m.least);
  greatest = greatests_more front (o ∷ [])
      ∙ (ap (λ v. v ++ greatests_in (o ∷ [])) h.greatest ∙ sym m.greatest);
  lists = lists_more front (o ∷ []) ∙ (ap (λ n. n + count_lists (o ∷ [])) h.lists ∙ sym m.lists);
}

-- an option that can't be added occurs twice
pub doubled_by : {A : Type 0} (words now rest : List (Option (String A))) (bounds : OptionWords)
    (front : List WalkOption) (o : WalkOption)
    → Begins words now front → AreSaidBy bounds front → IsNext now o rest
    → IsDoubled (all_in bounds.lower ++ leasts_in (o ∷ [])) (all_in bounds.upper ++ greatests_in (o ∷ []))
    (one_if bounds.has_list + count_lists (o ∷ []))
    → (options : List WalkOption) → SayEach words options → AreDoubled options
doubled_by words now rest bounds front o b s n twice options h =
    let parts = b.parts options h in
    let next = next_says now rest parts.0 o n parts.1 in
    let e : front ++ o ∷ next.0 ≡ options = ap (λ v. front ++ v) (sym next.2) ∙ sym parts.2 in
    subst AreDoubled e
    (doubled_so_far front o next.0
    (subst (λ v. IsDoubled (leasts_in front ++ leasts_in (o ∷ []))
    (greatests_in front ++ greatests_in (o ∷ [])) (v + count_lists (o ∷ []))) (sym s.lists)
    (subst (λ v. IsDoubled v (greatests_in front ++ greatests_in (o ∷ []))
    (one_if bounds.has_list + count_lists (o ∷ []))) (ap (λ v. v ++ leasts_in (o ∷ [])) (sym s.least))
    (subst (λ v. IsDoubled (all_in bounds.lower ++ leasts_in (o ∷ [])) v (one_if bounds.has_list
    + count_lists (o ∷ []))) (ap (λ v. v ++ greatests_in (o ∷ [])) (sym s.greatest)) twice))))

pub first_in : (n : Option ℕ) → slice_get (all_in n) 0 ≡ n
first_in None = refl
first_in (Some n) = refl

pub bounds_so : (bounds : OptionWords) (options read : List WalkOption) → options ≡ read
    → AreSaidBy bounds read → AreBounds (leasts_in options) (greatests_in options)
    → AreBounds (all_in bounds.lower) (all_in bounds.upper)
bounds_so bounds options read e s h =
    let k : AreBounds (leasts_in read) (greatests_in read) =
    subst (λ os. AreBounds (leasts_in os) (greatests_in os)) e h in
    subst (λ v. AreBounds v (all_in bounds.upper)) s.least
    (subst (λ v. AreBounds (leasts_in read) v) s.greatest k)

pub said_bounds : (bounds : OptionWords) (options : List WalkOption) → AreSaidBy bounds options
    → AreBounds (all_in bounds.lower) (all_in bounds.upper)
    → AreBounds (leasts_in options) (greatests_in options)
said_bounds bounds options s h = subst (λ v. AreBounds v (greatests_in options)) (sym s.least)
    (subst (λ v. AreBounds (all_in bounds.lower) v) (sym s.greatest) h)

at_most_one : (b : Bool) → one_if b ≤ 1
at_most_one true = omega arith
at_most_one false = omega arith

pub said_lists : (bounds : OptionWords) (options : List WalkOption) → AreSaidBy bounds options
    → count_lists options ≤ 1
said_lists bounds options s = subst (λ n. n ≤ 1) (sym s.lists) (at_most_one bounds.has_list)
