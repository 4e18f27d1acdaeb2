mod Rings
mod Payloads
mod Counts
mod Tours
mod Stages
mod LegitimateWorlds
mod RowsLayers
