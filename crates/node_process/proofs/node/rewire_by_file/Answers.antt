use Rattle.std.proofs.Common.{rules, ◌≡◌, Bool, true, false, IsTrue, refl, sym}
use Rattle.topology.specs.Network.{Network}
use Rattle.topology.specs.Change.{is_same_frame}
use Rattle.node_process.proofs.node.rewire_by_file.Goals as goal

-- the frame stays, whether the network that was read is taken or refused
same_frame : (old new read : Network) (answer : Bool) → answer ≡ is_same_frame old read → (IsTrue answer → new ≡ read)
    → (answer ≡ false → new ≡ old) → IsTrue (is_same_frame old new)
same_frame old new read true same taken refused = rw (taken refl) (sym same)
same_frame old new read false same taken refused = rw (refused refl) (search rules)

pub returns-in-Ok : goal.returns-in-Ok
returns-in-Ok g c =
    let now = c.rewire.ensures in
    same_frame c.args.run.now.net c.rewire.new.self.net c.in-Ok.net c.rewire.result now.answer now.net (λ off i. (now.refused off i).net)
