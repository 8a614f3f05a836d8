-- A place of another name: what its path and the paths of the places within it forbid, and what would be read otherwise
-- with them. Rules of our own.
use Rattle.std.specs.Prelude.{
  ℕ,
  zero,
  suc,
  List,
  Bool,
  true,
  false,
  not,
  ◌&&◌,
  ◌||◌,
  ◌==◌,
  nat_lt,
  Option,
  Some,
  None,
  codes,
  if◌then◌else◌,
}
use Rattle.std.specs.FinMap.{get}
use Rattle.std.specs.List.{list_all, list_any}
use Rattle.std.specs.Str.{bytes_eq}
use Rattle.stored_lines.specs.Tree.{Tree}
use Rattle.stored_lines.specs.Line.{Line}
use Rattle.record_kinds.specs.Model as model
use Rattle.record_kinds.specs.declared.record.Record.{Record}
use Rattle.record_kinds.specs.declared.record.Record.TheVariants as kind
use Rattle.record_shapes.specs.Entries.{entry_of}
use Rattle.record_shapes.specs.Fields.{is_above, path_below}
use Rattle.record_shapes.specs.Forms.{Known, is_childless, is_some, is_text, number_of, tagged}
use Rattle.record_shapes.specs.Paths.{has_part, is_within_limits}
use Rattle.archive_state.specs.Content.{Content}
use Rattle.archive_state.specs.Known.{known_before, tag_at}
use Rattle.archive_state.specs.Referrers.{referrers}
use Rattle.archive_state.specs.Sound.{place_of}

-- ---- the places within a place
abbrev pub place_in : Option Record → Option model.Place
place_in (Some (kind.Place p)) = Some p
place_in _ = None

abbrev pub is_number : ℕ → Option ℕ → Bool
is_number n None = false
is_number n (Some k) = k == n

-- the place of number k, where it is directly within place n; it has a greater number
abbrev pub place_within : ℕ → ℕ → Option Record → Option model.Place
place_within n k (Some (kind.Place p)) = if nat_lt n k && is_number n p.parent then Some p else None
place_within n k _ = None

-- of a place that may not be there
abbrev pub where_place : Bool → (model.Place → Bool) → Option model.Place → Bool
where_place none f None = none
where_place none f (Some p) = f p

-- ---- paths that are forbidden: 58
-- an event or an entry of place n
abbrev pub is_of : ℕ → Option Record → Bool
is_of n None = false
is_of n (Some r) = is_number n (place_of r)

abbrev pub is_at : Content → ℕ → ℕ → Bool
is_at c n k = is_of n (get c.records k)

-- place n may have this path: it is within the limits, and has a part that is not empty where an event or an entry is
-- there
abbrev pub may_have : Content → ℕ → List ℕ → Bool
may_have c n path =
    is_within_limits path && (has_part path || not (list_any (is_at c n) (referrers c n)))

-- so may the places within it. A path has at most 32 parts, so that none goes on below as many steps
abbrev pub all_may : ℕ → Content → ℕ → List ℕ → Bool
all_may zero c n path = false
all_may (suc steps) c n path =
    may_have c n path
    && list_all (λ k. where_place true (λ p. all_may steps c k (path_below p.name path))
    (place_within n k (get c.records k))) (referrers c n)

-- the same of the place of number k, if it is directly within place n
abbrev pub may_at : ℕ → Content → ℕ → List ℕ → ℕ → Bool
may_at steps c n path k =
    where_place true (λ p. all_may steps c k (path_below p.name path)) (place_within n k (get c.records k))

-- ---- what is read otherwise: 66
-- of paths only that of place n
abbrev pub path_only : ℕ → List ℕ → ℕ → Option (List ℕ)
path_only n path k = if k == n then Some path else None

-- with all tags
abbrev pub known_as : Content → ℕ → List ℕ → Known
known_as c n path = record { tag = λ k. tag_at (get c.records k); path = path_only n path }

-- below a place of that name, the line of its parent, which has one of the paths
abbrev pub is_parent : (ℕ → Option (List ℕ)) → List ℕ → Tree Line → Bool
is_parent path name t =
    tagged (codes "_LOC") t && (is_childless t && (not (is_text t) && is_above name (path (number_of t))))

-- a carried line of the place would be that of its parent, which it has not
abbrev pub takes_parent : (ℕ → Option (List ℕ)) → model.Place → Bool
takes_parent path p = not (is_some p.parent) && list_any (is_parent path p.name) p.carried

-- a record of no other kind would be a register entry
abbrev pub is_entry : Known → model.Other → Bool
is_entry known o = bytes_eq o.tag (codes "_REG") && is_some (entry_of known o.value o.carried)

-- the record of number k, which names place n of that path
abbrev pub reads_anew : Content → ℕ → List ℕ → ℕ → Option Record → Bool
reads_anew c n path k (Some (kind.Place p)) = nat_lt n k && takes_parent (path_only n path) p
reads_anew c n path k (Some (kind.Other o)) = is_entry (known_as c n path) o
reads_anew c n path k _ = false

-- one that names it, or a place within it
abbrev pub any_reads : ℕ → Content → ℕ → List ℕ → Bool
any_reads zero c n path = false
any_reads (suc steps) c n path =
    list_any (λ k. reads_anew c n path k (get c.records k)
    || where_place false (λ p. any_reads steps c k (path_below p.name path)) (place_within n k (get c.records k)))
    (referrers c n)

abbrev pub reads_at : ℕ → Content → ℕ → List ℕ → ℕ → Bool
reads_at steps c n path k =
    reads_anew c n path k (get c.records k)
    || where_place false (λ p. any_reads steps c k (path_below p.name path)) (place_within n k (get c.records k))

-- the place itself, or another record
abbrev pub is_read_anew : Content → ℕ → model.Place → List ℕ → Bool
is_read_anew c n p path = takes_parent (known_before c.records n).path p || any_reads 32 c n path
