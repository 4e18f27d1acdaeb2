-- A small example of what a running node says of its sockets.
use Rattle.std.proofs.Common.{◌≡◌, ◌≢◌, codes, refl, arith}
use Rattle.node_folder.specs.Texts.{blocked_line}

says-blocked : blocked_line (codes "run/desk-1.sock")
    ≡ codes "tokentree: run/desk-1.sock: cannot be made again; remove what stands there: the node runs on, and tries again"
says-blocked = refl

says_not-blocked : blocked_line (codes "a") ≢ blocked_line (codes "b")
says_not-blocked = grind arith
