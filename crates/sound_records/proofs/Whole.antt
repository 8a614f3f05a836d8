-- Records of which each keeps all parts of the rule.
use Rattle.std.proofs.Common.{◌≡◌, ℕ, List, Bool}
use Rattle.std.specs.Prelude.{Some}
use Rattle.std.specs.FinMap.{get}
use Rattle.record_kinds.specs.declared.record.Record.{Record}
use Rattle.archive_state.specs.Content.{Records}
use Rattle.sound_records.specs.Knowing.{AreWithin, HasAll}
use Rattle.sound_records.specs.Keys.{AreApart}
use Rattle.sound_records.specs.Parts.{AllKeep, AreWhole, Keeps, KeepsAt}
use Rattle.sound_records.proofs.Keyed.{in_list}

pub whole : (next : ℕ) (may_miss : Bool) (m : Records) (ns : List ℕ) → HasAll ns m → AreWithin m
    → AllKeep next may_miss m ns → AreApart m → AreWhole next may_miss m
whole next may_miss m ns all within keep apart =
    let at : (n : ℕ) (r : Record) → get m n ≡ Some r → Keeps next may_miss m n r =
    λ n r e. in_list (KeepsAt next may_miss m) ns n keep (all n r e) r e in
    record {
      rules = record {
        numbered = λ n r e. (at n r e).0.number;
        parents = λ n r e. (at n r e).0.parent;
        normal = λ n r e. (at n r e).0.name;
        paths = within;
        once = λ n r e. (at n r e).0.members;
        tags = λ n r e. (at n r e).0.tags;
        trailers = λ n r e. (at n r e).0.trailer;
        texts = λ n r e. (at n r e).0.texts;
        places = λ n r e. (at n r e).1.place;
        events = λ n r e. (at n r e).1.event;
        mentions = λ n r e. (at n r e).0.mentions;
        untaken = λ n r e. (at n r e).1.untaken;
        shapes = λ n r e. (at n r e).1.shape;
        levels = λ n r e. (at n r e).1.levels;
        keys = apart;
      };
      named = λ n r e. (at n r e).1.links;
    }
