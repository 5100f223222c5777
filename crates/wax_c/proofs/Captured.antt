-- The captures of a path are parts of it, one after another.
use Rattle.std.proofs.Common.{◌≡◌, ◌≤◌, ◌+◌, ◌∷◌, ◌∙◌, ◌==◌, ℕ, Bool, true, false, Result, Ok, Err, List, []}
use Rattle.std.proofs.Common.{length, take, drop, chars, encode_utf8_all, length-append, take-append-drop}
use Rattle.std.proofs.Common.{le_refl, neg_ℤ, nat_abs, pos, inl, inr, ap, arith, map, refl, subst, suc, sym}
use Rattle.std.proofs.{Common.if◌then◌else◌, Math.Utf8.{encode, encodes}, lemmas.List.Concat.flat_map-append}
use Rattle.std.proofs.lemmas.Str.{encodes-append, encodes-chars}
use Rattle.std.specs.List.{flat_map}
use Rattle.wax.specs.GlobView.{GlobView}
use Rattle.wax.specs.Language.{Leaf, Span, Tree, Trees, alternation, class, concatenation, leaf, literal}
use Rattle.wax.specs.Language.{members, more, none, one, repetition, separator, tree, zero_or_more}
use Rattle.wax_capture.specs.Captures.{Captured, leaf_captures, token_captures, tree_capture}
use Rattle.wax_c.specs.{Captures.{Captures, Texts}, Numbers.answer_number, declared.error.CallError.CallError}
use Rattle.wax_c.specs.declared.error.CallError.TheVariants.{Build, NotText, NoRoom}

abbrev bytes_of : List (List ℕ) → ℕ
bytes_of captures = length (flat_map encode_utf8_all captures)

nothing : (n : ℕ) → 0 ≤ n
nothing n = omega arith

tail_bytes : (c : ℕ) (s : List ℕ) → length (encodes s) ≤ length (encodes (c ∷ s))
tail_bytes c s = omega (arith, length-append (encode c) (encodes s))

lone_bytes : (c : ℕ) (slash : Bool)
    → length (encodes (if slash then [] else c ∷ [])) ≤ length (encodes (c ∷ []))
lone_bytes c true = nothing _
lone_bytes c false = le_refl _

tree_bytes : (before rooted : Bool) (x : List ℕ)
    → length (encodes (tree_capture before rooted x)) ≤ length (encodes x)
tree_bytes true rooted [] = le_refl _
tree_bytes true rooted (c ∷ s) = tail_bytes c s
tree_bytes false true x = le_refl _
tree_bytes false false [] = le_refl _
tree_bytes false false (c ∷ []) = lone_bytes c (c == 47)
tree_bytes false false (c ∷ d ∷ s) = le_refl _

one_bytes : (x y : List ℕ) → length (encodes y) ≤ length (encodes x) → bytes_of (y ∷ []) ≤ length (encodes x)
one_bytes x y few = omega (arith, few, length-append (encodes y) [])

leaf_bytes : (l : Leaf) (before : Bool) (x : List ℕ)
    → bytes_of (leaf_captures l before x) ≤ length (encodes x)
leaf_bytes (literal _ _) before x = nothing _
leaf_bytes separator before x = nothing _
leaf_bytes (class _ _) before x = one_bytes x x (le_refl _)
leaf_bytes one before x = one_bytes x x (le_refl _)
leaf_bytes (zero_or_more _) before x = one_bytes x x (le_refl _)
leaf_bytes (tree rooted) before x = one_bytes x (tree_capture before rooted x) (tree_bytes before rooted x)

token_bytes : (t : Tree Span) (before : Bool) (x : List ℕ)
    → bytes_of (token_captures t before x) ≤ length (encodes x)
token_bytes (leaf a l) before x = leaf_bytes l before x
token_bytes (alternation a ts) before x = one_bytes x x (le_refl _)
token_bytes (concatenation a ts) before x = nothing _
token_bytes (repetition a t low high) before x = one_bytes x x (le_refl _)

joined : (a b x y w z : ℕ) → w ≡ a + b → z ≡ x + y → a ≤ x → b ≤ y → w ≤ z
joined a b x y w z same parts few others = omega (arith, same, parts, few, others)

captured_bytes : (ts : Trees Span) (before after : Bool) (s : List ℕ) (captures : List (List ℕ))
    → Captured ts before after s captures → bytes_of captures ≤ length (encodes s)
captured_bytes none before after s captures (same, empty) =
    subst (λ cs. bytes_of cs ≤ length (encodes s)) (sym empty) (nothing _)
captured_bytes (more t ts) before after s captures (n, chosen, others, rest, same) =
    let piece = token_captures t before (take n s) in
    joined (bytes_of piece) (bytes_of others) (length (encodes (take n s))) (length (encodes (drop n s)))
    (bytes_of captures) (length (encodes s))
    (ap bytes_of same ∙ ap length (flat_map-append encode_utf8_all piece others)
    ∙ length-append (flat_map encode_utf8_all piece) (flat_map encode_utf8_all others))
    (ap (λ u. length (encodes u)) (sym (take-append-drop n s))
    ∙ ap length (encodes-append (take n s) (drop n s))
    ∙ length-append (encodes (take n s)) (encodes (drop n s)))
    (token_bytes t before (take n s))
    (captured_bytes ts true after (drop n s) others rest)

lengths_of : (captures : List (List ℕ))
    → length (map (λ capture. length (encode_utf8_all capture)) captures) ≡ length captures
lengths_of [] = refl
lengths_of (capture ∷ rest) = ap suc (lengths_of rest)

-- so these outputs aren't too small
pub captures_fit : (g : GlobView) (path : List ℕ) (before after : Texts) (count : ℕ)
    (outcome : Result Bool CallError) → Captures g path before after count outcome
    → length path ≤ length before.bytes → count ≤ length before.lengths
    → answer_number outcome ≡ neg_ℤ (pos 21) → ⊥
captures_fit g path before after count (Ok true) ends few enough is = omega (arith, ap nat_abs is)
captures_fit g path before after count (Ok false) ends few enough is = omega (arith, ap nat_abs is)
captures_fit g path before after count (Err NoRoom)
    (captures, (utf8, meant, captured), inl over, same, counted) few enough is = omega (
      arith,
      captured_bytes (members g.tree) false false (chars path) captures captured,
      ap length (encodes-chars path utf8),
      over,
      few,
    )
captures_fit g path before after count (Err NoRoom)
    (captures, matches, inr over, same, counted) few enough is =
    omega (arith, lengths_of captures, over, enough, counted)
captures_fit g path before after count (Err NotText) ends few enough is = omega (arith, ap nat_abs is)
captures_fit g path before after count (Err (Build error)) (memory, same, zero) few enough is =
    let ten = subst (λ error. answer_number (Err (Build error)) ≡ neg_ℤ (pos 21)) memory is in
    omega (arith, ap nat_abs ten)
