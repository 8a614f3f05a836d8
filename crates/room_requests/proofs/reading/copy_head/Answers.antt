use Rattle.std.proofs.Common.{◌∙◌, ap, refl}
use Rattle.room_requests.specs.Heads.{first_host}
use Rattle.room_requests.proofs.Counts.{hosts_of_spans}
use Rattle.room_requests.proofs.reading.copy_head.Goals as goal

pub returns : goal.returns
returns c =
    let (h, at) = c.requires.covers in
    let hosts = c.count_hosts.ensures ∙ hosts_of_spans _ _ h.fields at.fields in
    let method = c.in_ok-method.ensures.items ∙ c.of.ensures ∙ at.method in
    let target = c.in_ok-target.ensures ∙ c.of-2.ensures ∙ at.path in
    let host = c.in_ok-host.ensures.items ∙ c.first_host.ensures ∙ ap first_host at.fields in
    (h, at, rw (method, target, at.version, hosts, host) refl)
