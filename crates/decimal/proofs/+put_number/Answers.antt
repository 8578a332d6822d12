-- Each return is a law of the digits, and the number falls at the call.
use mathlib.Core.Path.{refl, sym}
use native.Mathlib.Omega.{arith}
use Rattle.append.proofs.Append.{appended_text, appended_both, room_text, room_first, room_second}
use Rattle.decimal.proofs.Decimal.{decimal_more}
use Rattle.decimal.proofs.+put_number.Goals as goal

pub put_number-end-requires : goal.put_number-end-requires
put_number-end-requires t c =
    let h = c.requires in (
      omega (arith, c.decreases, c.if-x-lt10.false),
      room_first _ _ (room_text (decimal_more refl c.if-x-lt10.false) h),
    )

pub put-requires-2 : goal.put-requires-2
put-requires-2 t c =
    let e = decimal_more c.digit-2.ensures c.if-x-lt10.false in
    room_second _ c.put_number-end.ensures (room_text e c.requires)

pub returns : goal.returns
returns t c =
    appended_text (sym (decimal_more c.digit-2.ensures c.if-x-lt10.false))
    (appended_both c.put_number-end.ensures c.put-2.ensures)
