-- What a new archive holds is sound.
use Rattle.std.proofs.Common.{◌≡◌, ℕ, sym, subst, arith}
use Rattle.std.specs.Prelude.{Some, None}
use Rattle.std.specs.Ordering.{nat_cmp}
use Rattle.std.specs.FinMap.{get, empty, get-empty}
use Rattle.record_kinds.specs.declared.record.Record.TheVariants as kind
use Rattle.archive_state.specs.Content.{Content, nothing}
use Rattle.archive_state.specs.Sound.{IsSound, HasSoundRecords}
use Rattle.archive_state.proofs.Climbing.{stands_there}

-- nothing stands in an empty map
pub none_there : {X : Type 0} (n : ℕ) (x : X) → get (empty {X = X} {R = nat_cmp}) n ≡ Some x → ⊥
none_there {X} n x e = let no : get (empty {X = X} {R = nat_cmp}) n ≡ None = get-empty nat_cmp n in cc

pub no_records_are_sound : (next : ℕ) → HasSoundRecords next empty
no_records_are_sound next = record {
  numbered = λ n r e. absurd (none_there n r e);
  parents = λ n r e. absurd (none_there n r e);
  normal = λ n r e. absurd (none_there n r e);
  paths = λ n path h. absurd (stands_there empty n path h (get-empty nat_cmp n));
  once = λ n r e. absurd (none_there n r e);
  tags = λ n r e. absurd (none_there n r e);
  trailers = λ n r e. absurd (none_there n r e);
  texts = λ n r e. absurd (none_there n r e);
  places = λ n r e. absurd (none_there n r e);
  events = λ n r e. absurd (none_there n r e);
  mentions = λ n r e. absurd (none_there n r e);
  untaken = λ n r e. absurd (none_there n r e);
  shapes = λ n r e. absurd (none_there n r e);
  levels = λ n r e. absurd (none_there n r e);
  keys = λ n k e h same. absurd (none_there n (kind.Entry e) h);
}

pub nothing_is_sound : IsSound nothing
nothing_is_sound = record {
  begun = omega arith;
  bounded = omega arith;
  distinct = λ n r e. absurd (none_there n r e);
  named = λ n r e. absurd (none_there n r e);
  rules = no_records_are_sound 1;
  slips = λ n s e. absurd (none_there n s e);
  stayed = λ n s e. absurd (none_there n s e);
  free = λ n s e. absurd (none_there n s e);
}

pub sound_if_nothing : (c : Content) → c ≡ nothing → IsSound c
sound_if_nothing c e = subst IsSound (sym e) nothing_is_sound
