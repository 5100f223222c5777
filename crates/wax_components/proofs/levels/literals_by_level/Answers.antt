use Rattle.std.proofs.Common.{rules, ◌≡◌, ◌∙◌, ◌<◌, ◌++◌, ◌∷◌, [], ap, sym, arith, length, append-nil}
use Rattle.std.proofs.{lemmas.Grind.flat_map-append, lemmas.List.{append_assoc, nil_from_length}}
use Rattle.std.specs.List.{flat_map}
use Rattle.wax_components.proofs.Globs.{weight, rest, rest-nil, rest_whole, rest_step, lighter_level}
use Rattle.wax_components.specs.Levels.{literals_in, sub_globs}
use Rattle.wax_components.proofs.levels.literals_by_level.Goals as goal

pub loop-alloc-init : goal.loop-alloc-init
loop-alloc-init g c =
    let whole = c.args.token.now in
    let level : c.push_glob.new.level.items ≡ whole ∷ [] =
    c.in_ok-push_glob.ensures ∙ ap (λ z. z ++ whole ∷ []) c.new-level.ensures.items in
    ap (λ z. z ++ flat_map literals_in (rest c.push_glob.new.level.items)) c.new-found.ensures.items
    ∙ ap (λ z. flat_map literals_in (rest z)) level
    ∙ ap (flat_map literals_in) (rest_whole whole)

pub loop-alloc-smaller : goal.loop-alloc-smaller
loop-alloc-smaller g c =
    let level = c.loop-alloc.level.items in
    let some : 0 < length level = search rules in
    let next : c.in_ok-level.level.items ≡ flat_map sub_globs level =
    c.in_ok-level.ensures ∙ ap (flat_map sub_globs) c.as_slice-in-loop-alloc.ensures.value in
    let lighter = lighter_level level in
    omega (arith, some, lighter, ap weight next)

pub loop-alloc-preserved : goal.loop-alloc-preserved
loop-alloc-preserved g c =
    let found = c.loop-alloc.found.items in
    let level = c.loop-alloc.level.items in
    let below = flat_map sub_globs level in
    let next : c.in_ok-level.level.items ≡ below =
    c.in_ok-level.ensures ∙ ap (flat_map sub_globs) c.as_slice-in-loop-alloc.ensures.value in
    let here : c.push_literals_of_level.new.found.items ≡ found ++ flat_map literals_in level =
    c.in_ok-push_literals_of_level.ensures
    ∙ ap (λ z. found ++ flat_map literals_in z) c.as_slice.ensures.value in
    ap (λ z. c.push_literals_of_level.new.found.items ++ flat_map literals_in (rest z)) next
    ∙ ap (λ z. z ++ flat_map literals_in (rest below)) here
    ∙ append_assoc found (flat_map literals_in level) (flat_map literals_in (rest below))
    ∙ ap (λ z. found ++ z) (sym (flat_map-append literals_in level (rest below))
    ∙ ap (flat_map literals_in) (sym (rest_step level)))
    ∙ c.loop-alloc.invariant

pub returns : goal.returns
returns g c =
    let level = c.loop-alloc.level.items in
    let none : level ≡ [] = nil_from_length level (search rules) in
    sym (append-nil c.loop-alloc.found.items)
    ∙ ap (λ z. c.loop-alloc.found.items ++ flat_map literals_in z) (sym (ap rest none ∙ rest-nil))
    ∙ c.loop-alloc.invariant
