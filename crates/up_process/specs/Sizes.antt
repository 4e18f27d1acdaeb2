-- What `up` has to know of a network.
use Rattle.std.specs.Prelude.{◌≡◌}
use Rattle.topology.specs.Network.{IsAcceptedNetwork, Network}
use Rattle.up_process.specs.declared.up.NetworkSize.{NetworkSize}

-- the size is that of a network
abbrev pub IsOfNetwork : NetworkSize → Type 0
IsOfNetwork size =
    (net : Network) × IsAcceptedNetwork net × (size.nodes ≡ net.nodes)
    × (size.capacity ≡ net.capacity)
