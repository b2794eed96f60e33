use Rattle.vendors.proofs.Weeks.{ones_departures}
use Rattle.vendors.proofs.calendar.departing.Vendor+CalendarTerms.departures.Goals as goal

pub returns : goal.returns
returns c = let mask = c.args.self.now.terms.mask in ones_departures mask.bits mask.days
