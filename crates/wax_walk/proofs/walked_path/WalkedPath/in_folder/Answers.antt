use Rattle.std.proofs.Common.{◌≡◌, ◌∙◌, ap, string_bytes, subst, sym, arith, length, ◌-◌, take}
use Rattle.std.proofs.{lemmas.List.length-take-le, lemmas.Str.IsUtf8-string_bytes}
use Rattle.wax_directory.specs.Shown.{join}
use Rattle.wax_walk.specs.{Paths.PathTexts, inner.Shared.IsShared}
use Rattle.wax_walk.specs.inner.Texts.{FitsPath, candidate_text, root_text}
use Rattle.wax_walk.proofs.Sharing.{parts_shared, shared_name, shared_candidate}
use Rattle.wax_walk.proofs.walked_path.WalkedPath.in_folder.Goals.{then-is_empty, else-is_empty}
use Rattle.wax_walk.proofs.walked_path.WalkedPath.in_folder.Goals as goal

-- the start and the candidate of the folder are parts of its path
folder_shared : (c : goal.After-row_known-in-Within-1) → let f = c.args.folder.now in
    (length f.root ≡ c.in-Within.root_end) × IsShared f.path f.root f.candidate c.in-Within.start
folder_shared c =
    let path = string_bytes c.folder.inside.path in
    let fits = subst (λ t. FitsPath t path) c.in-Within.is c.folder.invariant in
    let long : length (take c.in-Within.root_end path) ≡ c.in-Within.root_end =
    length-take-le c.in-Within.root_end path fits.0.0 in
    subst (λ (f : PathTexts). (length f.root ≡ c.in-Within.root_end)
    × IsShared f.path f.root f.candidate c.in-Within.start)
    (ap (λ t. record { path = path; root = root_text t path; candidate = candidate_text t path })
    (sym c.in-Within.is) ∙ c.folder.view_is)
    (long, parts_shared path c.in-Within.root_end c.in-Within.start fits.0 fits.1)

-- and so are those of the item
item_shared : (c : goal.After-row_known-in-Within-1) → let f = c.args.folder.now in
    IsShared (string_bytes c.in_ok-path-in-Within.path) f.root (join f.candidate (string_bytes c.args.name))
    c.if-is_empty.candidate_start
item_shared c =
    let f = c.args.folder.now in
    let name = string_bytes c.args.name in
    let text = IsUtf8-string_bytes c.args.name in
    let shared = (folder_shared c).1 in
    let joined : string_bytes c.in_ok-path-in-Within.path ≡ join f.path name =
    c.in_ok-path-in-Within.ensures ∙ ap (λ p. join p name) c.as_str.ensures in
    rw joined (elim c.if-is_empty.branch [
      | then-is_empty w ↦
          let n : c.if-is_empty.candidate_start ≡ length (join f.path name) - length name =
          omega (arith, w.candidate_start-is, w.len.ensures, c.len-name_len.ensures, ap length joined) in
          rw n (shared_name f.path f.root f.candidate name c.in-Within.start shared text
          (rw c.candidate.ensures at w.if-is_empty.ensures))
      | else-is_empty w ↦
          rw w.candidate_start-is (shared_candidate f.path f.root f.candidate name
          c.in-Within.start shared text
          (rw c.candidate.ensures at w.if-is_empty.ensures))
    ])

pub invariant_of-result : goal.invariant_of-result
invariant_of-result c =
    let s = item_shared c in
    (rw (folder_shared c).0 at s.root_ends, s.candidate_begins)

pub returns-after-is_empty : goal.returns-after-is_empty
returns-after-is_empty c =
    let s = item_shared c in
    let begins = rw (folder_shared c).0 at s.begins in
    λ i. record {
      path =
          (c.in_ok-path-in-Within.ensures ∙ ap (λ p. join p (string_bytes c.args.name)) c.as_str.ensures) i;
      root = begins i;
      candidate = s.ends i;
    }
