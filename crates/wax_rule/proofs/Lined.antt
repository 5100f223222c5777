-- The lines of a picture.
use Rattle.std.proofs.Common.{rules, ◌≡◌, ◌∙◌, ◌-◌, ◌^◌, ◌<◌, ◌==◌, ◌∷◌, ◌++◌, ℕ, List, [], max, ap, arith}
use Rattle.std.proofs.Common.{refl, sym, subst, append_assoc, false, map, replicate, encode_utf8_all}
use Rattle.std.proofs.lemmas.List.Elements.{All-append, All-head, All-nil, All-push, All-replicate, All-tail}
use Rattle.std.proofs.lemmas.List.Elements.{All-weaker}
use Rattle.std.proofs.lemmas.List.Splits.{join_with_byte-slice_split, slice_split_at}
use Rattle.std.specs.{Prelude.{◌≢◌, All, codes}, Char.encode_utf8, List.{AllZip, join_with_byte, slice_split}}
use Rattle.wax_query.specs.Labels.{Label}
use Rattle.wax_token.specs.Reads.{utf8_len}
use Rattle.wax_rule.specs.Drawn.{columns_before, byte_after, drawn_character, marks, label_lines, picture}
use Rattle.wax_rule.specs.PictureLines.{IsDrawnAs, IsLabelLine, HasNoLineFeed, ShowsLabels, PicturesShow}
use Rattle.wax_rule.proofs.Marking.{marks_are, same_run}

-- the byte is no line feed
abbrev IsPlain : ℕ → Type 0
IsPlain b = (b == 10) ≡ false

-- what stands between line feeds
abbrev split_at_feeds : List ℕ → List (List ℕ)
split_at_feeds = slice_split (λ b. b == 10)

plain_byte : (b : ℕ) → b ≢ 10 → IsPlain b
plain_byte b other = search (rules, other)

plain_encoded : (c : ℕ) → IsPlain c → All IsPlain (encode_utf8 c)
unfolding encode_utf8
plain_encoded c plain = search (rules, plain)

-- a line feed is a control character
plain_drawn : (c : ℕ) → IsPlain (drawn_character c)
plain_drawn c = grind arith

drawn_as : (c : ℕ) → IsDrawnAs c (drawn_character c)
drawn_as c = grind arith

each_drawn : (e : List ℕ) → AllZip IsDrawnAs e (map drawn_character e)
each_drawn [] = tt
each_drawn (c ∷ e) = (drawn_as c, each_drawn e)

all_plain_drawn : (e : List ℕ) → All IsPlain (encode_utf8_all (map drawn_character e))
all_plain_drawn [] = All-nil IsPlain
all_plain_drawn (c ∷ e) =
    All-append IsPlain (encode_utf8 (drawn_character c)) (encode_utf8_all (map drawn_character e))
    (plain_encoded (drawn_character c) (plain_drawn c)) (all_plain_drawn e)

-- the line of a label, without its line feed
abbrev line_of : List ℕ → Label → List ℕ
line_of e label = marks e label.1 ++ codes " " ++ label.0

all_plain_line : (e : List ℕ) (label : Label) → HasNoLineFeed label → All IsPlain (line_of e label)
all_plain_line e label plain =
    let start = columns_before label.1.0 e in
    let carets = max 1 (columns_before (byte_after label.1) e - start) in
    let all_marks = All-append IsPlain (replicate start 32) (replicate carets 94)
    (All-replicate IsPlain start 32 refl) (All-replicate IsPlain carets 94 refl) in
    All-append IsPlain (marks e label.1 ++ codes " ") label.0
    (All-push IsPlain (marks e label.1) 32 all_marks refl)
    (All-weaker (λ b. b ≢ 10) IsPlain plain_byte label.0 plain)

-- a line ends at its line feed
split_line : (line rest : List ℕ) → All IsPlain line
    → split_at_feeds ((line ++ 10 ∷ []) ++ rest) ≡ line ∷ split_at_feeds rest
split_line line rest plain =
    ap split_at_feeds (append_assoc line (10 ∷ []) rest)
    ∙ slice_split_at (λ b. b == 10) line 10 rest plain refl

split_labels : (e : List ℕ) (labels : List Label) → All HasNoLineFeed labels
    → split_at_feeds (label_lines e labels) ≡ map (line_of e) labels ++ [] ∷ []
split_labels e [] plain = refl
split_labels e (l ∷ ls) plain =
    split_line (line_of e l) (label_lines e ls) (all_plain_line e l (All-head HasNoLineFeed l ls plain))
    ∙ ap (λ v. line_of e l ∷ v) (split_labels e ls (All-tail HasNoLineFeed l ls plain))

split_picture : (e : List ℕ) (labels : List Label) → All HasNoLineFeed labels
    → split_at_feeds (picture e labels)
    ≡ encode_utf8_all (map drawn_character e) ∷ map (line_of e) labels ++ [] ∷ []
split_picture e labels plain =
    let drawn = encode_utf8_all (map drawn_character e) in
    split_line drawn (label_lines e labels) (all_plain_drawn e)
    ∙ ap (λ v. drawn ∷ v) (split_labels e labels plain)

each_line : (e : List ℕ) (labels : List Label) → utf8_len e < 2 ^ 64
    → AllZip (IsLabelLine e) labels (map (line_of e) labels)
each_line e [] small = tt
each_line e (l ∷ ls) small =
    let start = columns_before l.1.0 e in (
      record {
        blanks = start;
        carets = max 1 (columns_before (byte_after l.1) e - start);
        whole = refl;
        marked = marks_are e l.1 small;
      },
      each_line e ls small,
    )

shows : (e : List ℕ) (labels : List Label) → utf8_len e < 2 ^ 64 → All HasNoLineFeed labels
    → ShowsLabels e labels (picture e labels)
shows e labels small plain = record {
  drawn = map drawn_character e;
  lines = map (line_of e) labels;
  split = split_picture e labels plain;
  each_character = each_drawn e;
  each_label = each_line e labels small;
}

same_cons : {X : Type 0} {x y : X} {xs ys : List X} → x ≡ y → xs ≡ ys → x ∷ xs ≡ y ∷ ys
same_cons first rest = cc

-- an expression is drawn in one way
only_drawn : (e drawn : List ℕ) → AllZip IsDrawnAs e drawn → drawn ≡ map drawn_character e
only_drawn [] [] each = refl
only_drawn [] (d ∷ ds) each = absurd each
only_drawn (c ∷ cs) [] each = absurd each
only_drawn (c ∷ cs) (d ∷ ds) each = same_cons (each.0 ∙ sym (drawn_as c)) (only_drawn cs ds each.1)

-- and a label has one line
only_line : (e : List ℕ) (label : Label) (line : List ℕ) → utf8_len e < 2 ^ 64 → IsLabelLine e label line
    → line ≡ line_of e label
only_line e label line small is_line =
    let start = columns_before label.1.0 e in
    let carets = max 1 (columns_before (byte_after label.1) e - start) in
    let same = same_run is_line.blanks is_line.carets start carets (omega arith) (λ k. (
      (λ marked. (marks_are e label.1 small k).1 ((is_line.marked k).0 marked)),
      (λ marked. (is_line.marked k).1 ((marks_are e label.1 small k).0 marked)),
    )) in
    is_line.whole ∙ ap (λ v. replicate v 32 ++ replicate is_line.carets 94 ++ codes " " ++ label.0) same.0
    ∙ ap (λ v. replicate start 32 ++ replicate v 94 ++ codes " " ++ label.0) same.1

only_lines : (e : List ℕ) (labels : List Label) (lines : List (List ℕ)) → utf8_len e < 2 ^ 64
    → AllZip (IsLabelLine e) labels lines → lines ≡ map (line_of e) labels
only_lines e [] [] small each = refl
only_lines e [] (line ∷ lines) small each = absurd each
only_lines e (l ∷ ls) [] small each = absurd each
only_lines e (l ∷ ls) (line ∷ lines) small each =
    same_cons (only_line e l line small each.0) (only_lines e ls lines small each.1)

-- texts that split into the same lines are one
same_lines : (xs ys : List ℕ) → split_at_feeds xs ≡ split_at_feeds ys → xs ≡ ys
same_lines xs ys same =
    sym (join_with_byte-slice_split 10 xs) ∙ ap (join_with_byte 10) same ∙ join_with_byte-slice_split 10 ys

only_picture : (e : List ℕ) (labels : List Label) (text : List ℕ) → utf8_len e < 2 ^ 64
    → All HasNoLineFeed labels → ShowsLabels e labels text → text ≡ picture e labels
only_picture e labels text small plain shown =
    same_lines text (picture e labels) (shown.split
    ∙ ap (λ v. encode_utf8_all v ∷ shown.lines ++ [] ∷ []) (only_drawn e shown.drawn shown.each_character)
    ∙ ap (λ v. encode_utf8_all (map drawn_character e) ∷ v ++ [] ∷ [])
    (only_lines e labels shown.lines small shown.each_label)
    ∙ sym (split_picture e labels plain))

pub pictures_show : PicturesShow
pictures_show e labels text small plain = (
  (λ same. subst (ShowsLabels e labels) (sym same) (shows e labels small plain)),
  (λ shown. only_picture e labels text small plain shown),
)
