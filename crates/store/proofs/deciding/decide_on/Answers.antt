use Rattle.std.proofs.Common.{refl}
use Rattle.std.proofs.lemmas.Result.{IfErr-weaker}
use Rattle.sqlite.specs.Held.{state}
use Rattle.store_tables.proofs.Queries.{only_committed}
use Rattle.store.proofs.Viewed.{kept_of, none_is_bad, shown_of}
use Rattle.store.proofs.deciding.decide_on.Goals as goal
use Rattle.list_laws.proofs.Outcomes.{any_ok}

pub returns-then-archive-clause-crash : goal.returns-then-archive-clause-crash
returns-then-archive-clause-crash g c clean rows content was seen =
    let archive = c.args.archive.now in
    let old = state g.S.Store archive.conn in
    let kept = kept_of rows content seen in
    let shown = shown_of old archive.is_lost kept was
    (λ t l. only_committed old rows t was (g.met.S.Store.settled archive.conn.store t was.is_open l)) in
    ((c.decide_wholly-decided.ensures.decides clean).1 kept shown).0.crash

pub returns-clause-crash : goal.returns-clause-crash
returns-clause-crash g c clean rows content was seen =
    let archive = c.args.archive.now in
    let old = state g.S.Store archive.conn in
    let kept = kept_of rows content seen in
    let shown = shown_of old archive.is_lost kept was
    (λ t l. only_committed old rows t was (g.met.S.Store.settled archive.conn.store t was.is_open l)) in
    ((c.decide_wholly-decided.ensures.decides clean).1 kept shown).0.crash

pub returns-clause-decides : goal.returns-clause-decides
returns-clause-decides g c clean rows content was seen =
    let archive = c.args.archive.now in
    let old = state g.S.Store archive.conn in
    let kept = kept_of rows content seen in
    let shown = shown_of old archive.is_lost kept was
    (λ t l. only_committed old rows t was (g.met.S.Store.settled archive.conn.store t was.is_open l)) in
    ((c.decide_wholly-decided.ensures.decides clean).1 kept shown).1

pub returns-clause-declines : goal.returns-clause-declines
returns-clause-declines g c clean rows content was seen =
    let archive = c.args.archive.now in
    let old = state g.S.Store archive.conn in
    let kept = kept_of rows content seen in
    let shown = shown_of old archive.is_lost kept was
    (λ t l. only_committed old rows t was (g.met.S.Store.settled archive.conn.store t was.is_open l)) in
    ((c.decide_wholly-decided.ensures.declines clean).1 kept shown).1

pub returns-clause-values : goal.returns-clause-values
returns-clause-values g c clean rows content was seen =
    let archive = c.args.archive.now in
    let old = state g.S.Store archive.conn in
    let kept = kept_of rows content seen in
    let shown = shown_of old archive.is_lost kept was
    (λ t l. only_committed old rows t was (g.met.S.Store.settled archive.conn.store t was.is_open l)) in
    ((c.decide_wholly-decided.ensures.values clean).1 kept shown).1

pub returns-clause-exact : goal.returns-clause-exact
returns-clause-exact g c clean rows content was seen =
    let archive = c.args.archive.now in
    let old = state g.S.Store archive.conn in
    let kept = kept_of rows content seen in
    let shown = shown_of old archive.is_lost kept was
    (λ t l. only_committed old rows t was (g.met.S.Store.settled archive.conn.store t was.is_open l)) in
    ((c.decide_wholly-decided.ensures.exact clean).1 kept shown).1

-- while the archive is not lost no look has failed, and so none found rows that cannot be read
pub returns-clause-readable : goal.returns-clause-readable
returns-clause-readable g c clean rows content was seen =
    let archive = c.args.archive.now in
    let old = state g.S.Store archive.conn in
    let kept = kept_of rows content seen in
    let shown = shown_of old archive.is_lost kept was
    (λ t l. only_committed old rows t was (g.met.S.Store.settled archive.conn.store t was.is_open l)) in
    let still = ((c.decide_wholly-decided.ensures.decides clean).1 kept shown).0 in
    IfErr-weaker c.decide_wholly-decided.result _ _
    (λ e counted. none_is_bad 0 c.decide_wholly-decided.new.view.failures e refl
    (still.none c.if-archive.false) counted.0) c.decide_wholly-decided.ensures.counts.1

pub returns-clause-same : goal.returns-clause-same
returns-clause-same g c clean rows content was seen =
    let archive = c.args.archive.now in
    let old = state g.S.Store archive.conn in
    let kept = kept_of rows content seen in
    let shown = shown_of old archive.is_lost kept was
    (λ t l. only_committed old rows t was (g.met.S.Store.settled archive.conn.store t was.is_open l)) in
    let still = ((c.decide_wholly-decided.ensures.decides clean).1 kept shown).0 in
    any_ok c.decide_wholly-decided.result (still.settled c.if-archive.false, still.none c.if-archive.false)

pub returns-clause-placed : goal.returns-clause-placed
returns-clause-placed g c =
    IfErr-weaker c.decide_wholly-decided.result _ _ (λ e counted. counted.1) c.decide_wholly-decided.ensures.counts.1
