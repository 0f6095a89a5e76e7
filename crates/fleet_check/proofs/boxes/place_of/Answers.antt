use Rattle.std.proofs.Common.{◌≤◌, ◌*◌, arith}
use Rattle.std.proofs.lemmas.Nat.{mul-le}
use Rattle.fleet_check.proofs.boxes.place_of.Goals as goal

pub overflow_mul-result : goal.overflow_mul-result
overflow_mul-result c =
    let most : c.station.inside.0 * c.len.result ≤ 60 * 6 = mul-le c.station.inside.0 c.len.result 60 6
    (omega (arith, c.requires.station, c.station.view_is, c.stations.ensures.value, c.stations.ensures.few)) c.len.ensures.few in
    omega (arith, most)

pub overflow_add-result : goal.overflow_add-result
overflow_add-result c =
    let most : c.station.inside.0 * c.len.result ≤ 60 * 6 = mul-le c.station.inside.0 c.len.result 60 6
    (omega (arith, c.requires.station, c.station.view_is, c.stations.ensures.value, c.stations.ensures.few)) c.len.ensures.few in
    omega (arith, most, c.requires.unit_type, c.unit_type.view_is, c.len.ensures.value, c.len.ensures.few)
