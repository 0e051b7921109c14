-- Below 10 there is one digit; from 10 on the digits of the tenth are put, with room for one more.
use Rattle.std.proofs.Common.{arith}
use Rattle.text.proofs.Digits.{one_digit_long, one_digit_longer, puts_one_digit, puts_one_digit_more}
use Rattle.text.proofs.+number.Goals as goal

pub bounds-out-at : goal.bounds-out-at
bounds-out-at t c = omega (arith, one_digit_long c.args.n c.if-n-lt10.true)

pub returns-then-n-lt10 : goal.returns-then-n-lt10
returns-then-n-lt10 t c = puts_one_digit c.args.out.now c.args.at c.args.n c.requires c.if-n-lt10.true

pub number-next-requires : goal.number-next-requires
number-next-requires t c = let longer = one_digit_longer c.args.n c.if-n-lt10.false in (omega arith, omega arith)

pub bounds-out-next : goal.bounds-out-next
bounds-out-next t c = omega (arith, one_digit_longer c.args.n c.if-n-lt10.false)

pub overflow_add-result-2 : goal.overflow_add-result-2
overflow_add-result-2 t c = omega (arith, one_digit_longer c.args.n c.if-n-lt10.false)

pub returns : goal.returns
returns t c =
    puts_one_digit_more c.args.out.now c.args.at c.args.n c.requires c.number-next.result c.number-next.new.out
    c.if-n-lt10.false c.number-next.ensures
