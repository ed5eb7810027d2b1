use Rattle.emh_session.proofs.Told.{not-told, told}
use Rattle.emh_session.proofs.telling.tell_one.Goals as goal

pub returns-then-enabled : goal.returns-then-enabled
returns-then-enabled g c =
    told _ c.args.enabled c.args.who c.args.entry c.args.desk.now c.speak.new.self c.notify.new.desk c.notify.result
    c.if-enabled.true c.requires.there c.speak.ensures c.notify.ensures

pub returns : goal.returns
returns g c =
    let member = c.args.member.now in
    not-told ((goal.Observer-dyn g (member.vtable, member.value)).wants member.value) c.args.enabled c.args.who c.args.entry c.args.desk.now c.if-enabled.false c.requires.there
