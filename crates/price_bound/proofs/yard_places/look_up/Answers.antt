-- One trip more looks.
use Rattle.std.proofs.Common.{◌≡◌, ◌<◌, ◌+◌, ◌++◌, ◌∷◌, ℕ, ℤ, List, [], length, get_or, set, map, take, drop, ap, sym}
use Rattle.std.proofs.Common.{subst, arith, ◌∙◌, length-set, append_assoc}
use Rattle.std.proofs.lemmas.List.{drop_more, get_or-set_other, take_more_set}
use Rattle.price_bound.specs.declared.yard_places.YardPlace.{YardPlace}
use Rattle.price_bound.specs.YardTables.{amounts_at, column_of}
use Rattle.price_bound.proofs.yard_places.look_up.Goals as goal

station_known : (yards : List (List (List ℤ))) (places : List YardPlace) (t : ℕ) (at : YardPlace) → at ≡ get_or places t at → t < length places
    → ((k : ℕ) (d : YardPlace) → k < length places → (get_or places k d).station < length yards) → at.station < length yards
station_known yards places t at is lt known = subst (λ (p : YardPlace). p.station < length yards) (sym is) (known t at lt)

pub copy_column-requires-clause-width : goal.copy_column-requires-clause-width
copy_column-requires-clause-width c =
    c.loop-trip.invariant.widths c.loop-trip.trip (omega arith) c.loop-trip-test.true c.index-places-trip.result.station []
    (station_known c.args.yards.now c.args.places.now c.loop-trip.trip c.index-places-trip.result c.index-places-trip.is
    c.loop-trip-test.true c.requires.known)
    ∙ ap length (sym c.station.ensures)

pub loop-trip-preserved : goal.loop-trip-preserved
loop-trip-preserved c =
    let yards : List (List (List ℤ)) = c.args.yards.now in
    let places : List YardPlace = c.args.places.now in
    let table : List (List ℤ) = c.loop-trip.table in
    let t : ℕ = c.loop-trip.trip in
    let at : YardPlace = c.index-places-trip.result in
    let row : List ℤ = amounts_at yards at in
    let rest : List (List ℤ) = map (amounts_at yards) (drop (t + 1) places) in
    let below : t < length places = c.loop-trip-test.true in
    let within : t < length table = omega (arith, below, c.loop-trip.invariant.height) in
    let put : c.copy_column.new.self ≡ set table t row =
    c.copy_column.ensures ∙ ap (λ (types : List (List ℤ)). set table t (column_of at.place types)) c.station.ensures in
    let looked : row ∷ rest ≡ map (amounts_at yards) (drop t places) =
    ap (λ (p : YardPlace). amounts_at yards p ∷ rest) c.index-places-trip.is ∙ sym (ap (map (amounts_at yards)) (drop_more places t at below)) in
    record {
      rows =
          ap (λ (rows : List (List ℤ)). take (t + 1) rows ++ rest) put
          ∙ ap (λ (rows : List (List ℤ)). rows ++ rest) (take_more_set table t row within)
          ∙ append_assoc (take t table) (row ∷ []) rest
          ∙ ap (λ (rows : List (List ℤ)). take t table ++ rows) looked
          ∙ c.loop-trip.invariant.rows;
      height = ap length put ∙ length-set table t row ∙ c.loop-trip.invariant.height;
      widths = λ r le lt k d known.
          ap (λ (rows : List (List ℤ)). length (get_or rows r [])) put
          ∙ ap length (get_or-set_other table t r row [] (λ e. absurd (omega (arith, le, e))))
          ∙ c.loop-trip.invariant.widths r (omega (arith, le)) lt k d known;
    }
