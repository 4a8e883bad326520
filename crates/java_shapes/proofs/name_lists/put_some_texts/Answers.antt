use Rattle.java_shapes.proofs.Built.{puts_texts}
use Rattle.java_shapes.proofs.name_lists.put_some_texts.Goals as goal

pub returns : goal.returns
returns c =
    let texts = c.in_ok-texts.ensures in
    let class = c.in_ok-class.ensures in
    puts_texts c.args.b.now c.put_each.new.b c.put_class.new.b c.put_array.new.b c.args.names.now c.in_ok-texts.texts c.in_ok-class.class c.put_array.result texts.0 texts.1 class.0 class.1 c.put_array.ensures
