use Rattle.std.proofs.Common.{◌<◌, None, Some, arith, chars, rules, string_bytes, subst, sym}
use Rattle.std.specs.Cow.{cow_str_bytes}
use Rattle.wax_token.specs.Cost.{program_length}
use Rattle.wax_partition.specs.Partition.{IsPartition, spelled_rest}
use Rattle.wax.specs.Partition.{HasParts}
use Rattle.wax.proofs.Parts.{has_parts, rest_fits, rest_kept}
use Rattle.wax.proofs.glob.Glob.partition.Goals as goal

pub returns-in_default : goal.returns-in_default
returns-in_default c =
    let whole = c.self.inside.checked in
    let e = chars (cow_str_bytes whole.expression) in
    let p = chars (string_bytes c.in_ok-prefix.prefix) in
    let k : IsPartition e whole.token p (spelled_rest None) = search rules in
    subst (λ g. HasParts g p None) c.self.view_is (has_parts e whole.token p c.self.invariant.kept None k)

pub returns-in-Ok : goal.returns-in-Ok
returns-in-Ok c =
    let whole = c.self.inside.checked in
    let e = chars (cow_str_bytes whole.expression) in
    let p = chars (string_bytes c.in_ok-prefix.prefix) in
    let o = Some c.in-Some.checked in
    let k : IsPartition e whole.token p (spelled_rest o) = search rules in
    subst (λ g. HasParts g p (Some c.in-Ok.glob)) c.self.view_is
    (subst (HasParts _ p) (sym c.in-Ok.ensures.glob) (has_parts e whole.token p c.self.invariant.kept o k))

-- the rest is kept, and costs no more than the whole
pub compiled-requires : goal.compiled-requires
compiled-requires c =
    let whole = c.self.inside.checked in
    let e = chars (cow_str_bytes whole.expression) in
    let p = chars (string_bytes c.in_ok-prefix.prefix) in
    let k : IsPartition e whole.token p (spelled_rest (Some c.in-Some.checked)) = search rules in
    rest_kept e whole.token p c.self.invariant.kept c.in-Some.checked k

pub unreachable-requires : goal.unreachable-requires
unreachable-requires c =
    let whole = c.self.inside.checked in
    let e = chars (cow_str_bytes whole.expression) in
    let p = chars (string_bytes c.in_ok-prefix.prefix) in
    let u = c.in-Some.checked in
    let k : IsPartition e whole.token p (spelled_rest (Some u)) = search rules in
    let larger : 1048576 < program_length u.token = search rules in
    omega (arith, larger, rest_fits e whole.token p c.self.invariant.kept u k, c.self.invariant.compiled.fits)
