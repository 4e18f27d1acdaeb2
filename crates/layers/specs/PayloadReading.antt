-- What the payloads of a link that have been read leave open.
use Rattle.std.specs.Prelude.{◌≡◌, IsTrue, Option, Some, None}
use Rattle.topology.specs.declared.frame.Payload.{Payload}
use Rattle.layers.specs.declared.payload_reading.PayloadReading.{PayloadReading}

-- the payload is the one that was read, if one was
abbrev pub IsAlso : Option Payload → Payload → Type 0
IsAlso None payload = Unit {0}
IsAlso (Some read) payload = read ≡ payload

-- this may be the payload of all numbers but the sender's, by what has been read
abbrev pub Admits : PayloadReading → Payload → Type 0
Admits reading other = IsTrue reading.fits × IsAlso reading.other other
