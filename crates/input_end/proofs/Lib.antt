mod Draining
