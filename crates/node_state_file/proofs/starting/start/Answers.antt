use Rattle.std.proofs.Common.{◌≡◌, ◌∙◌, ap, sym}
use Rattle.state_writing.specs.node_core.Site.{Site, site_of}
use Rattle.node_state_file.proofs.starting.start.Goals as goal
use Rattle.node_state_file.proofs.starting.start.Goals.{in-Ok, in-Err}

pub restore-requires-clause-start : goal.restore-requires-clause-start
restore-requires-clause-start g c = c.in_ok-state.ensures.state

pub restore-requires-clause-site : goal.restore-requires-clause-site
restore-requires-clause-site g c =
    let same : c.in_ok-state.state.id ≡ c.args.id = ap (λ (s : Site). s.id) c.in_ok-state.ensures.site in
    c.in_ok-state.ensures.site ∙ ap (site_of c.args.net.now) (sym same)

pub restore-requires-clause-id : goal.restore-requires-clause-id
restore-requires-clause-id g c =
    let same : c.in_ok-state.state.id ≡ c.args.id = ap (λ (s : Site). s.id) c.in_ok-state.ensures.site in
    rw same c.requires

pub restore-requires-clause-fits : goal.restore-requires-clause-fits
restore-requires-clause-fits g c = c.in-Ok.ensures.fits

pub returns-clause-starts : goal.returns-clause-starts
returns-clause-starts g c =
    let same : c.in_ok-state.state.id ≡ c.args.id = ap (λ (s : Site). s.id) c.in_ok-state.ensures.site in
    elim c.match-read.branch [
      | in-Ok w ↦ rw (w.fault-is, w.state-is, w.restore.ensures.state, same) w.in-Ok.ensures.ok
      | in-Err w ↦ rw (w.fault-is, w.state-is, c.in_ok-state.ensures.state) w.in-Err.ensures.err
    ]

pub returns-clause-site : goal.returns-clause-site
returns-clause-site g c =
    elim c.match-read.branch [
      | in-Ok w ↦ rw w.state-is (w.restore.ensures.site ∙ c.in_ok-state.ensures.site)
      | in-Err w ↦ rw w.state-is c.in_ok-state.ensures.site
    ]

pub returns-clause-stored : goal.returns-clause-stored
returns-clause-stored g c = c.read_store-read.ensures.stored
