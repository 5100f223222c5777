-- Tokens with their flag groups, between places of the grammar.
use Rattle.std.proofs.Common.{◌≡◌, ℕ, ◌<◌, Bool, List, ◌++◌, length, Some, sym, ◌∙◌, ap, subst, arith}
use Rattle.std.proofs.Common.{length-append, append_assoc}
use Rattle.wax_token.specs.{Syntax.Leaf, Reads.{Place, Flags, Around, ReadsLeaf}}
use Rattle.wax_parse.specs.{inner.Parser.{flags_end, read_leaf}, inner.Reading.HasProperSuffix}
use Rattle.wax_parse.proofs.Flags.{flags_last, flags_reached, flags_text}
use Rattle.wax_parse.proofs.Leaves.{Good, leaf_sound, leaf_complete, leaf_takes, leaf_no_flag}

-- a leaf is read after all flag groups
pub leaf_read : (around : Around) (first : Bool) (l : Leaf) (p m q : Place) → Flags p m
    → ReadsLeaf around first l m q → read_leaf around first (flags_end p) ≡ Some (l, q)
leaf_read around first l p m q f h = ap (read_leaf around first)
    (sym (flags_last p m f (leaf_no_flag around first l m q h))) ∙ leaf_complete around first l m q h

pub leaf_reads : (around : Around) (first : Bool) (l : Leaf) (p q : Place)
    → read_leaf around first p ≡ Some (l, q) → ReadsLeaf around first l p q
leaf_reads around first l p q e = subst (Good around first p) e (leaf_sound around first p)

-- what the flag groups and the leaf take
pub token_takes : (around : Around) (first : Bool) (l : Leaf) (p q : Place)
    → read_leaf around first (flags_end p) ≡ Some (l, q) → HasProperSuffix p.rest q.rest
token_takes around first l p q e =
    let f : (x : List ℕ) × (p.rest ≡ x ++ (flags_end p).rest) =
    flags_text p (flags_end p) (flags_reached p) in
    let t : HasProperSuffix (flags_end p).rest q.rest = leaf_takes around first l (flags_end p) q e in (
      f.0 ++ t.0,
      f.1 ∙ ap (λ z. f.0 ++ z) t.1 ∙ sym (append_assoc f.0 t.0 q.rest),
      omega (arith, t.2, length-append f.0 t.0),
    )

pub token_shorter : (around : Around) (first : Bool) (l : Leaf) (p q : Place)
    → read_leaf around first (flags_end p) ≡ Some (l, q) → length q.rest < length p.rest
token_shorter around first l p q e = let k : HasProperSuffix p.rest q.rest =
    token_takes around first l p q e in omega (arith, ap length k.1, length-append k.0 q.rest, k.2)
