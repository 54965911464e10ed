-- `names::put_digits` meets its contract, down the digits.
use Rattle.names.proofs.+put_digits.Given as goal

abbrev pub decreases-put_digits : goal.decreases-put_digits
decreases-put_digits l = l.digits
