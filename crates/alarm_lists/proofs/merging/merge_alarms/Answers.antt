use Rattle.std.proofs.Common.{refl}
use Rattle.alarm_lists.proofs.Forms.{form_on, hull_form}
use Rattle.alarm_lists.proofs.merging.merge_alarms.Goals as goal

pub returns : goal.returns
returns c =
    let both = c.in_ok-shown.ensures.holds in
    let facts = c.in_ok-facts.ensures in
    record {
      alike = (refl, refl, refl);
      hull = c.in_ok-shown.ensures.hull;
      first = λ q. record { chain = refl; place = refl; kind = refl; shows = λ o h. both.first q.objects o h; facts = facts.first };
      second = λ q. record {
        chain = c.requires.alike.0;
        place = c.requires.alike.1;
        kind = c.requires.alike.2;
        shows = λ o h. both.second q.objects o h;
        facts = facts.second;
      };
      holds = λ q n. record {
        chain = refl;
        place = refl;
        kind = refl;
        check = refl;
        example = refl;
        shows = λ o h. both.first q.objects o h;
        form = λ k es h. form_on k es c.args.first.shown c.in_ok-shown.shown
            (hull_form c.args.first.shown c.args.second.shown c.in_ok-shown.shown c.in_ok-shown.ensures.hull) h;
        proper = λ h. both.proper;
        names = λ h. both.names _ h n;
        facts = facts.first;
      };
      proper = both.proper;
    }
