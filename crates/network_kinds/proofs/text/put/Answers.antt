use Rattle.network_kinds.proofs.Members.{put_done}
use Rattle.network_kinds.proofs.text.put.Goals as goal

pub returns-in-Ok : goal.returns-in-Ok
returns-in-Ok c = put_done _ _ _ _ _ c.in-Ok.ensures.entries c.in_ok-name.ensures.ok
